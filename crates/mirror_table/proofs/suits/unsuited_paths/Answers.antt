use Rattle.std.proofs.Common.{◌≡◌, ◌∙◌, ap, length, map, sym}
use Rattle.std.specs.Prelude.{filter_map, is_none, nat_lt}
use Rattle.std.specs.List.{list_any}
use Rattle.std.proofs.lemmas.List.{length-map}
use Rattle.log_actions.specs.Commits.{are_distinct}
use Rattle.log_actions.specs.Paths.{name_under}
use Rattle.mirror_table.specs.Refusals.{first_of, unsuited_names}
use Rattle.mirror_table.proofs.TextLemmas.{fewer_where_missing}
use Rattle.mirror_table.proofs.suits.unsuited_paths.Goals as goal

pub returns : goal.returns
returns c =
    let location = c.args.location.now in
    let files = c.args.files.now in
    let paths = map (λ f. f.now.path) files in
    let d : c.in_ok-distinct.distinct ≡ are_distinct paths
    = c.in_ok-distinct.ensures ∙ ap (λ l. are_distinct (map (λ t. t.now) l)) c.deref.ensures.value ∙ ap are_distinct c.in_ok-paths.ensures in
    let n : c.are_fewer-nameless.result ≡ list_any (λ path. is_none (name_under location path)) paths
    = c.are_fewer-nameless.ensures ∙ ap (λ l. nat_lt (length l) (length files)) (c.deref-2.ensures.value ∙ c.in_ok-names.ensures)
    ∙ ap (nat_lt (length (filter_map (name_under location) paths))) (sym (length-map files (λ f. f.now.path))) ∙ fewer_where_missing (name_under location) paths in
    let l : c.in_ok-later.later ≡ unsuited_names location (filter_map (name_under location) paths)
    = c.in_ok-later.ensures ∙ ap (unsuited_names location) (c.deref-3.ensures.value ∙ c.in_ok-names.ensures) in
    c.first_of.ensures ∙ (λ i. first_of (d i) (n i) (l i))
