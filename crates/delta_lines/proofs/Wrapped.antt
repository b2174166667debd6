-- A value that is read as that of an action of a log.
use Rattle.std.proofs.Common.{◌≡◌, List, ℕ, Some, None, Result, Ok, Err, refl, sym, subst, codes}
use Rattle.std.specs.Prelude.{option_and_then}
use Rattle.serde_json.specs.Data.{Data, null, boolean, number, string, array, object, member, no_members}
use Rattle.json_tree.specs.Results.{◌>>=◌}
use Rattle.log_actions.specs.Lines.{action_in, action_of_data}
use Rattle.log_actions.specs.Reading.{meta_data_of, protocol_of}
use Rattle.log_actions.specs.declared.actions.Action.TheVariants as logged
use Rattle.log_actions.specs.declared.actions.MetaData.{MetaData}
use Rattle.log_actions.specs.declared.actions.Protocol.{Protocol}
use Rattle.log_actions.specs.declared.line_fault.LineFault.{LineFault}
use Rattle.delta_lines.specs.Reading.{Gives, found, meta_or, protocol_or}
use Rattle.delta_lines.specs.declared.faults.LineFault.{LineFault as Unread}

-- the object with that member alone
abbrev pub alone : List ℕ → Data → Data
alone name d = object (member name d no_members)

null_protocol : found (protocol_of null) ≡ None
unfolding protocol_of
null_protocol = refl

through_protocol : (r : Result Protocol LineFault) → option_and_then protocol_or (found (r >>= λ p. Ok (Some (logged.Protocol p)))) ≡ found r
through_protocol (Ok p) = refl
through_protocol (Err e) = refl

pub seen_protocol : (d : Data) → option_and_then protocol_or (found (action_of_data (alone (codes "protocol") d))) ≡ found (protocol_of d)
unfolding action_in
seen_protocol null = sym null_protocol
seen_protocol (boolean b) = through_protocol (protocol_of (boolean b))
seen_protocol (number n) = through_protocol (protocol_of (number n))
seen_protocol (string s) = through_protocol (protocol_of (string s))
seen_protocol (array ds) = through_protocol (protocol_of (array ds))
seen_protocol (object ms) = through_protocol (protocol_of (object ms))

pub Gives_protocol : (r : Result Protocol Unread) (d : Data) → Gives r (option_and_then protocol_or (found (action_of_data (alone (codes "protocol") d)))) → Gives r (found (protocol_of d))
Gives_protocol r d gives = subst (λ o. Gives r o) (seen_protocol d) gives

null_meta : found (meta_data_of null) ≡ None
unfolding meta_data_of
null_meta = refl

through_meta : (r : Result MetaData LineFault) → option_and_then meta_or (found (r >>= λ m. Ok (Some (logged.MetaData m)))) ≡ found r
through_meta (Ok m) = refl
through_meta (Err e) = refl

pub seen_meta : (d : Data) → option_and_then meta_or (found (action_of_data (alone (codes "metaData") d))) ≡ found (meta_data_of d)
unfolding action_in
seen_meta null = sym null_meta
seen_meta (boolean b) = through_meta (meta_data_of (boolean b))
seen_meta (number n) = through_meta (meta_data_of (number n))
seen_meta (string s) = through_meta (meta_data_of (string s))
seen_meta (array ds) = through_meta (meta_data_of (array ds))
seen_meta (object ms) = through_meta (meta_data_of (object ms))

pub Gives_meta : (r : Result MetaData Unread) (d : Data) → Gives r (option_and_then meta_or (found (action_of_data (alone (codes "metaData") d)))) → Gives r (found (meta_data_of d))
Gives_meta r d gives = subst (λ o. Gives r o) (seen_meta d) gives
