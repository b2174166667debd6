-- What is held fits the edits with one more: edits of shares and of their tables.
use Rattle.std.proofs.Common.{◌≡◌, ℕ, ◌+◌, List, [], ◌∷◌, ◌++◌, Bool, true, false, cond, Option, Some, None, refl, sym, ap, ◌∙◌, subst, length, bytes_eq, true≢false, arith}
use Rattle.std.specs.Prelude.{unwrap_or, is_some, is_none, ◌==◌}
use Rattle.std.specs.List.{list_any}
use Rattle.std.specs.FinMap.Entries.{find, put}
use Rattle.std.proofs.lemmas.Bool.Decides.{nat_tests}
use Rattle.std.proofs.lemmas.Cmp.{nat_list_cmp_total}
use Rattle.share_catalog.specs.declared.table_name.TableName.{TableName}
use Rattle.share_catalog.specs.declared.edit.Binding.{Binding}
use Rattle.share_catalog.specs.declared.edit.Edit.{Edit}
use Rattle.share_catalog.specs.declared.edit.Edit.TheVariants as edit
use Rattle.share_catalog.specs.declared.state.ShareState.{ShareState}
use Rattle.share_catalog.specs.declared.state.TableState.{TableState}
use Rattle.share_catalog.specs.Catalogue.{bound, bound_location, bound_table, binds_table, distinct, granted_pair, has_share, is_table, locations_bound, made_recipient, made_share, same_pair, says_binding, says_share}
use Rattle.share_catalog.specs.Fits.{Fits, TableFits, makes_share}
use Rattle.share_catalog.specs.Maps.{Maps, after, bound_by, bytes_cmp, share_in, share_stands, share_times, since, table_edition, table_in, table_made, with_location}
use Rattle.share_catalog.specs.TableNames.{parts_of, texts_cmp}
use Rattle.share_catalog.proofs.Orders.{texts_total}
use Rattle.share_catalog.proofs.Quiet.{UnboundBy, count_made, count_put, count_quiet, digest_quiet, distinct_quiet, grant_quiet, recipient_quiet, share_quiet, table_quiet}
use Rattle.share_catalog.proofs.Refusals.{location_known}
use Rattle.share_catalog.proofs.Set.{EndsShare, at_table, grants_after_share, made_again, set_share, table_here, table_there, tables_after_share}
use Rattle.share_catalog.proofs.SortedLemmas.{sorted-put}
use Rattle.share_catalog.proofs.KeyTests.{bytes_refl, bytes_sym, table_refl, table_sym}
use Rattle.share_catalog.proofs.Words.{any_same, count_grows, count_same, distinct_more, known_now, known_same, made_more, more, new_word}

pub after_new_share : (m : Maps) (edits : List Edit) (n : List ℕ) → Fits m edits → Fits (after m (edit.NewShare n)) (more edits (edit.NewShare n))
after_new_share m edits n fits =
    let e : Edit = edit.NewShare n in
    let st : ShareState = record { stands = true; made = share_times (share_in m n) + 1 } in
    let ends : EndsShare n e (share_in m n) st = record {
      binding = λ t. refl;
      unbound = λ t. record { binds = refl; made = refl };
      grant = λ r s. refl;
      ungranted = λ r s. record { grants = refl; made = refl };
      ended = λ k le. made_again k (share_times (share_in m n)) le;
      later = omega arith;
    } in
    record {
      sorted = record {
        shares = sorted-put bytes_cmp nat_list_cmp_total n st m.shares fits.sorted.shares;
        recipients = fits.sorted.recipients;
        tables = fits.sorted.tables;
        grants = fits.sorted.grants;
        holders = fits.sorted.holders;
      };
      shares = set_share edits e n st m.shares fits.shares
          (record {
            stands = sym (ap (λ w. unwrap_or w false) (new_word (says_share n) edits e true (ap (λ b. cond b (Some true) None) (bytes_refl n))));
            times = ap (λ k. k + 1) (fits.shares n).times ∙ sym (count_grows (makes_share n) edits e (bytes_refl n));
            known = sym (known_now (bytes_eq n) made_share edits e (bytes_refl n));
          })
          (λ q other. record {
            says = ap (λ b. cond b (Some true) None) other;
            makes = other;
            made = bytes_sym q n ∙ other;
          });
      recipients = λ q. recipient_quiet edits e q _ (record { says = refl; makes = refl; credential = refl; made = refl }) (fits.recipients q);
      tables = tables_after_share edits e n st m.shares m.tables fits.tables ends;
      grants = grants_after_share edits e n st m.recipients m.shares m.grants fits.grants ends;
      holders = λ digest q. digest_quiet edits e digest q (record { says = refl; makes = refl; credential = refl; made = refl }) ∙ fits.holders digest q;
      locations = fits.locations ∙ distinct_quiet bytes_eq bound_location edits e refl;
      share_count = count_made bytes_cmp nat_list_cmp_total bytes_eq bytes_sym made_share edits e n n st m.shares refl fits.sorted.shares (fits.shares n).known fits.share_count;
      recipient_count = count_quiet bytes_eq made_recipient edits e (length m.recipients) refl fits.recipient_count;
      table_count = count_quiet is_table bound_table edits e (length m.tables) refl fits.table_count;
      grant_count = count_quiet same_pair granted_pair edits e (length m.grants) refl fits.grant_count;
    }

share_there : (o : Option ShareState) → share_stands o ≡ true → is_some o ≡ true
share_there None e = e
share_there (Some s) e = refl

pub after_drop_share : (m : Maps) (edits : List Edit) (n : List ℕ) → Fits m edits → has_share edits n ≡ true → Fits (after m (edit.DropShare n)) (more edits (edit.DropShare n))
after_drop_share m edits n fits has =
    let e : Edit = edit.DropShare n in
    let st : ShareState = record { stands = false; made = share_times (share_in m n) } in
    let there : is_some (share_in m n) ≡ true = share_there (share_in m n) ((fits.shares n).stands ∙ has) in
    let ends : EndsShare n e (share_in m n) st = record {
      binding = λ t. refl;
      unbound = λ t. record { binds = refl; made = refl };
      grant = λ r s. refl;
      ungranted = λ r s. record { grants = refl; made = refl };
      ended = λ k le. refl;
      later = omega arith;
    } in
    record {
      sorted = record {
        shares = sorted-put bytes_cmp nat_list_cmp_total n st m.shares fits.sorted.shares;
        recipients = fits.sorted.recipients;
        tables = fits.sorted.tables;
        grants = fits.sorted.grants;
        holders = fits.sorted.holders;
      };
      shares = set_share edits e n st m.shares fits.shares
          (record {
            stands = sym (ap (λ w. unwrap_or w false) (new_word (says_share n) edits e false (ap (λ b. cond b (Some false) None) (bytes_refl n))));
            times = (fits.shares n).times ∙ sym (count_same (makes_share n) edits e refl);
            known = sym there ∙ (fits.shares n).known ∙ sym (known_same (bytes_eq n) made_share edits e refl);
          })
          (λ q other. record { says = ap (λ b. cond b (Some false) None) other; makes = refl; made = refl });
      recipients = λ q. recipient_quiet edits e q _ (record { says = refl; makes = refl; credential = refl; made = refl }) (fits.recipients q);
      tables = tables_after_share edits e n st m.shares m.tables fits.tables ends;
      grants = grants_after_share edits e n st m.recipients m.shares m.grants fits.grants ends;
      holders = λ digest q. digest_quiet edits e digest q (record { says = refl; makes = refl; credential = refl; made = refl }) ∙ fits.holders digest q;
      locations = fits.locations ∙ distinct_quiet bytes_eq bound_location edits e refl;
      share_count = count_put bytes_cmp nat_list_cmp_total bytes_eq made_share edits e n st m.shares refl fits.sorted.shares there fits.share_count;
      recipient_count = count_quiet bytes_eq made_recipient edits e (length m.recipients) refl fits.recipient_count;
      table_count = count_quiet is_table bound_table edits e (length m.tables) refl fits.table_count;
      grant_count = count_quiet same_pair granted_pair edits e (length m.grants) refl fits.grant_count;
    }

-- tables after one got a new state
set_table : (edits : List Edit) (e : Edit) (n : TableName) (st : TableState) (es : List (List ℕ × ShareState)) (ts : List (List (List ℕ) × TableState))
    → ((t : TableName) → TableFits edits t (find bytes_cmp t.share es) (find texts_cmp (parts_of t) ts))
    → TableFits (more edits e) n (find bytes_cmp n.share es) (Some st)
    → ((t : TableName) → is_table n t ≡ false → (says_binding t e ≡ None) × UnboundBy t e)
    → (t : TableName) → TableFits (more edits e) t (find bytes_cmp t.share es) (find texts_cmp (parts_of t) (put texts_cmp (parts_of n) st ts))
set_table edits e n st es ts fits here quiet = at_table n (λ t. TableFits (more edits e) t (find bytes_cmp t.share es) (find texts_cmp (parts_of t) (put texts_cmp (parts_of n) st ts)))
    (subst (TableFits (more edits e) n (find bytes_cmp n.share es)) (sym (table_here n st ts)) here)
    (λ t other. subst (TableFits (more edits e) t (find bytes_cmp t.share es)) (sym (table_there n t st ts other))
    (table_quiet edits e t (find bytes_cmp t.share es) (find texts_cmp (parts_of t) ts) (quiet t other).0 (quiet t other).1 (fits t)))

same_number : (n : ℕ) → (n == n) ≡ true
same_number n = grind (arith, nat_tests)

-- what stands is as it is
pub stands_since : (b : Bool) (n : ℕ) → b ≡ true → since b n n ≡ true
stands_since b n e = rw (e, same_number n) refl

pick_first : (b : Bool) (x : Option Binding) → b ≡ true → cond b x None ≡ x
pick_first b x e = rw e refl

location_case : (b b' : Bool) (ls ds : List (List ℕ)) (l : List ℕ) → b ≡ b' → ls ≡ ds → cond b ls (ls ++ l ∷ []) ≡ cond b' ds (ds ++ l ∷ [])
location_case b b' ls ds l p q = rw (p, q) refl

locations_after : (m : Maps) (edits : List Edit) (t : TableName) (b : Binding) → Fits m edits → with_location b.location m.locations ≡ distinct bytes_eq (locations_bound (more edits (edit.Bind t b)))
locations_after m edits t b fits =
    location_case (list_any (λ x. bytes_eq x b.location) m.locations) (list_any (λ x. bytes_eq x b.location) (locations_bound edits)) m.locations (distinct bytes_eq (locations_bound edits)) b.location
    (location_known m edits fits b.location ∙ any_same (bytes_eq b.location) (λ x. bytes_eq x b.location) (λ x. bytes_sym b.location x) (locations_bound edits)) fits.locations
    ∙ sym (distinct_more bytes_eq (locations_bound edits) b.location)
    ∙ ap (distinct bytes_eq) (sym (made_more bound_location edits (edit.Bind t b) b.location refl))

pub after_bind : (m : Maps) (edits : List Edit) (t : TableName) (b : Binding) → Fits m edits → has_share edits t.share ≡ true → Fits (after m (edit.Bind t b)) (more edits (edit.Bind t b))
after_bind m edits t b fits has =
    let e : Edit = edit.Bind t b in
    let so : Option ShareState = share_in m t.share in
    let st : TableState = record { binding = Some b; share_made = share_times so; edition = table_edition (table_in m t) + 1 } in
    record {
      sorted = record {
        shares = fits.sorted.shares;
        recipients = fits.sorted.recipients;
        tables = sorted-put texts_cmp texts_total (parts_of t) st m.tables fits.sorted.tables;
        grants = fits.sorted.grants;
        holders = fits.sorted.holders;
      };
      shares = λ q. share_quiet edits e q _ (record { says = refl; makes = refl; made = refl }) (fits.shares q);
      recipients = λ q. recipient_quiet edits e q _ (record { says = refl; makes = refl; credential = refl; made = refl }) (fits.recipients q);
      tables = set_table edits e t st m.shares m.tables fits.tables
          (record {
            binding = pick_first (since (share_stands so) (share_times so) (share_times so)) (Some b) (stands_since (share_stands so) (share_times so) ((fits.shares t.share).stands ∙ has))
                ∙ sym (ap (λ w. unwrap_or w None) (new_word (says_binding t) edits e (Some b) (ap (λ x. cond x (Some (Some b)) None) (table_refl t))));
            edition = ap (λ k. k + 1) (fits.tables t).edition ∙ sym (count_grows (binds_table t) edits e (table_refl t));
            made = omega arith;
            known = sym (known_now (is_table t) bound_table edits e (table_refl t));
          })
          (λ u other. (ap (λ x. cond x (Some (Some b)) None) other, record { binds = other; made = table_sym u t ∙ other }));
      grants = λ r s. grant_quiet edits e r s _ _ _ refl (record { grants = refl; made = refl }) (fits.grants r s);
      holders = λ digest q. digest_quiet edits e digest q (record { says = refl; makes = refl; credential = refl; made = refl }) ∙ fits.holders digest q;
      locations = locations_after m edits t b fits;
      share_count = count_quiet bytes_eq made_share edits e (length m.shares) refl fits.share_count;
      recipient_count = count_quiet bytes_eq made_recipient edits e (length m.recipients) refl fits.recipient_count;
      table_count = count_made texts_cmp texts_total is_table table_sym bound_table edits e t (parts_of t) st m.tables refl fits.sorted.tables (fits.tables t).known fits.table_count;
      grant_count = count_quiet same_pair granted_pair edits e (length m.grants) refl fits.grant_count;
    }

abbrev nothing : Option Binding
nothing = None

none_either : (b : Bool) → cond b nothing nothing ≡ nothing
none_either true = refl
none_either false = refl

bound_there : (so : Option ShareState) (o : Option TableState) → is_none (bound_by so o) ≡ false → is_some o ≡ true
bound_there so None e = absurd (true≢false (ap is_none (sym (none_either (since (share_stands so) (share_times so) 0))) ∙ e))
bound_there so (Some t) e = refl

pub after_unbind : (m : Maps) (edits : List Edit) (t : TableName) → Fits m edits → is_none (bound edits t) ≡ false → Fits (after m (edit.Unbind t)) (more edits (edit.Unbind t))
after_unbind m edits t fits has =
    let e : Edit = edit.Unbind t in
    let so : Option ShareState = share_in m t.share in
    let o : Option TableState = table_in m t in
    let st : TableState = record { binding = None; share_made = table_made o; edition = table_edition o } in
    let there : is_some o ≡ true = bound_there so o (ap is_none (fits.tables t).binding ∙ has) in
    record {
      sorted = record {
        shares = fits.sorted.shares;
        recipients = fits.sorted.recipients;
        tables = sorted-put texts_cmp texts_total (parts_of t) st m.tables fits.sorted.tables;
        grants = fits.sorted.grants;
        holders = fits.sorted.holders;
      };
      shares = λ q. share_quiet edits e q _ (record { says = refl; makes = refl; made = refl }) (fits.shares q);
      recipients = λ q. recipient_quiet edits e q _ (record { says = refl; makes = refl; credential = refl; made = refl }) (fits.recipients q);
      tables = set_table edits e t st m.shares m.tables fits.tables
          (record {
            binding = none_either (since (share_stands so) (share_times so) (table_made o))
                ∙ sym (ap (λ w. unwrap_or w None) (new_word (says_binding t) edits e None (ap (λ x. cond x (Some None) None) (table_refl t))));
            edition = (fits.tables t).edition ∙ sym (count_same (binds_table t) edits e refl);
            made = (fits.tables t).made;
            known = sym there ∙ (fits.tables t).known ∙ sym (known_same (is_table t) bound_table edits e refl);
          })
          (λ u other. (ap (λ x. cond x (Some None) None) other, record { binds = refl; made = refl }));
      grants = λ r s. grant_quiet edits e r s _ _ _ refl (record { grants = refl; made = refl }) (fits.grants r s);
      holders = λ digest q. digest_quiet edits e digest q (record { says = refl; makes = refl; credential = refl; made = refl }) ∙ fits.holders digest q;
      locations = fits.locations ∙ distinct_quiet bytes_eq bound_location edits e refl;
      share_count = count_quiet bytes_eq made_share edits e (length m.shares) refl fits.share_count;
      recipient_count = count_quiet bytes_eq made_recipient edits e (length m.recipients) refl fits.recipient_count;
      table_count = count_put texts_cmp texts_total is_table bound_table edits e (parts_of t) st m.tables refl fits.sorted.tables there fits.table_count;
      grant_count = count_quiet same_pair granted_pair edits e (length m.grants) refl fits.grant_count;
    }
