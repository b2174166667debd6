-- What listeners and links answer.
use Rattle.std.specs.Prelude.{◌≡◌, ℕ, ◌-◌, ◌<◌, Bool, true, false, List, Option, Some, None, nat_eq, if◌then◌else◌}
use Rattle.edge_core.specs.Lines.{PeerLine, Comes, ComesFrom, NoneComes}
use Rattle.edge_core.specs.declared.listener.Listening.{Listening}
use Rattle.edge_core.specs.declared.listener.Listening.TheVariants as listening
use Rattle.edge_core.specs.declared.listener.Taken.{Taken}
use Rattle.edge_core.specs.declared.listener.Taken.TheVariants as taken
use Rattle.edge_core.specs.declared.link.Opened.{Opened}
use Rattle.edge_core.specs.declared.link.Opened.TheVariants as opened

abbrev pub failed_listen : Listening → Bool
failed_listen listening.Open = false
failed_listen listening.Failed = true

-- the port at which a listener was opened last, by where it was before a call of `listen`: a call that fails leaves it there
abbrev pub listens_after : Option ℕ → ℕ → Listening → Option ℕ
listens_after old port listening.Open = Some port
listens_after old port listening.Failed = old

-- A listener that is open stays so, untouched, and answers Open at its port alone; else it is opened at that port, if it is.
abbrev pub ListensOnce : {N : Type 0} → (N → Option ℕ) → N → N → Option ℕ → Option ℕ → ℕ → Listening → Type 0
ListensOnce listens old new (Some open_at) port_new port answer =
    (new ≡ old) × (port_new ≡ Some open_at) × (answer ≡ (if nat_eq open_at port then listening.Open else listening.Failed))
ListensOnce listens old new None port_new port listening.Open = (port_new ≡ Some port) × (listens new ≡ Some port)
ListensOnce listens old new None port_new port listening.Failed = port_new ≡ None

module _ {I O : Type 0} where
  abbrev pub failed_accept : Taken I O → Bool
  failed_accept (taken.Line i o) = false
  failed_accept taken.End = false
  failed_accept taken.Failed = true

  abbrev pub is_line : Taken I O → Bool
  is_line (taken.Line i o) = true
  is_line taken.End = false
  is_line taken.Failed = false

  abbrev pub is_end : Taken I O → Bool
  is_end (taken.Line i o) = false
  is_end taken.End = true
  is_end taken.Failed = false

  -- A line comes with counts of 0; or none is to come; a listener that fails gives none.
  abbrev pub Takes : (I → Option (List ℕ)) → (I → ℕ) → (O → Option (List ℕ)) → (O → ℕ) → Option (List (List ℕ)) → Option (List (List ℕ)) → Taken I O → Type 0
  Takes left read_faults holds write_faults old new (taken.Line i o) = Comes old new (left i) (holds o) × (read_faults i ≡ 0) × (write_faults o ≡ 0)
  Takes left read_faults holds write_faults old new taken.End = NoneComes old × (new ≡ old)
  Takes left read_faults holds write_faults old new taken.Failed = new ≡ old

  -- A limit of 0 ends the lines, whatever the listener has; another goes down by each line.
  abbrev pub Limits : ℕ → ℕ → Taken I O → Type 0
  Limits old new (taken.Line i o) = (0 < old) × (new ≡ old - 1)
  Limits old new taken.End = new ≡ old
  Limits old new taken.Failed = (0 < old) × (new ≡ old)

  abbrev pub failed_open : Opened I O → Bool
  failed_open (opened.Line i o) = false
  failed_open opened.Failed = true

  abbrev pub is_opened : Opened I O → Bool
  is_opened (opened.Line i o) = true
  is_opened opened.Failed = false

  -- A line to that host and port comes with counts of 0; a link that fails gives none.
  abbrev pub Opens : (I → Option (List ℕ)) → (I → ℕ) → (O → Option (List ℕ)) → (O → ℕ) → List ℕ → ℕ → Option (List PeerLine) → Option (List PeerLine) → Opened I O → Type 0
  Opens left read_faults holds write_faults host port old new (opened.Line i o) = ComesFrom host port old new (left i) (holds o) × (read_faults i ≡ 0) × (write_faults o ≡ 0)
  Opens left read_faults holds write_faults host port old new opened.Failed = new ≡ old
