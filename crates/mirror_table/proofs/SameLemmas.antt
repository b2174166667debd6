-- What is the same is equal.
use Rattle.std.proofs.Common.{◌≡◌, ◌==◌, ◌&&◌, Bool, true, false, List, ℕ, ℤ, Option, Some, None, refl, sym, ap, subst, bytes_eq, true≢false}
use Rattle.std.specs.Bool.{Decides, beq}
use Rattle.std.specs.Cmp.{booleans_Decides}
use Rattle.std.specs.Cmp.Lexicographic.{pointwise_decides}
use Rattle.std.specs.Option.{option_eq}
use Rattle.std.specs.Ordering.{int_eq}
use Rattle.std.proofs.lemmas.Bool.Decides.{Decides-and, Decides-eqb, Decides-int_eq, Decides-like}
use Rattle.std.proofs.lemmas.Slice.Eq.{bytes_eq-Decides}
use Rattle.log_actions.specs.declared.actions.AddFile.{AddFile}
use Rattle.log_actions.specs.declared.actions.Format.{Format}
use Rattle.log_actions.specs.declared.actions.MetaData.{MetaData}
use Rattle.log_actions.specs.declared.actions.Protocol.{Protocol}
use Rattle.mirror_table.specs.Same.{same_file, same_format, same_meta, same_pair, same_pairs, same_protocol, same_texts}

module _ {X : Type 0} {E : X → X → Bool} (decides : (x y : X) → Decides (E x y) (x ≡ y)) where
  option_same : (p q : Option X) → option_eq E p q ≡ true → p ≡ q
  option_same None None h = refl
  option_same None (Some y) h = absurd (true≢false (sym h))
  option_same (Some x) None h = absurd (true≢false (sym h))
  option_same (Some x) (Some y) h = ap Some ((decides x y).0 h)

  option_own : (p : Option X) → option_eq E p p ≡ true
  option_own None = refl
  option_own (Some x) = (decides x x).1 refl

  pub option_decides : (p q : Option X) → Decides (option_eq E p q) (p ≡ q)
  option_decides p q = (option_same p q, λ e. subst (λ r. option_eq E p r ≡ true) e (option_own p))

texts_decides : (a b : List (List ℕ)) → Decides (same_texts a b) (a ≡ b)
texts_decides = pointwise_decides bytes_eq-Decides

pair_decides : (a b : List ℕ × Option (List ℕ)) → Decides (same_pair a b) (a ≡ b)
pair_decides a b =
    Decides-like _ (λ h i. (h.0 i, h.1 i)) (λ e. (ap (λ p. p.0) e, ap (λ p. p.1) e))
    (Decides-and _ _ (bytes_eq-Decides a.0 b.0) (option_decides bytes_eq-Decides a.1 b.1))

pairs_decides : (a b : List (List ℕ × Option (List ℕ))) → Decides (same_pairs a b) (a ≡ b)
pairs_decides = pointwise_decides pair_decides

pub protocol_decides : (a b : Protocol) → Decides (same_protocol a b) (a ≡ b)
protocol_decides a b =
    Decides-like _ (λ h i. record { min_reader = h.0 i; min_writer = h.1.0 i; reader_features = h.1.1.0 i; writer_features = h.1.1.1 i })
    (λ e. (ap (λ p. p.min_reader) e, (ap (λ p. p.min_writer) e, (ap (λ p. p.reader_features) e, ap (λ p. p.writer_features) e))))
    (Decides-and _ _ (Decides-eqb a.min_reader b.min_reader) (Decides-and _ _ (Decides-eqb a.min_writer b.min_writer)
    (Decides-and _ _ (option_decides texts_decides a.reader_features b.reader_features) (option_decides texts_decides a.writer_features b.writer_features))))

format_decides : (a b : Format) → Decides (same_format a b) (a ≡ b)
format_decides a b =
    Decides-like _ (λ h i. record { provider = h.0 i; options = h.1 i }) (λ e. (ap (λ p. p.provider) e, ap (λ p. p.options) e))
    (Decides-and _ _ (bytes_eq-Decides a.provider b.provider) (pairs_decides a.options b.options))

pub meta_decides : (a b : MetaData) → Decides (same_meta a b) (a ≡ b)
meta_decides a b =
    Decides-like _
    (λ h i. record { id = h.0 i; name = h.1.0 i; description = h.1.1.0 i; format = h.1.1.1.0 i; schema = h.1.1.1.1.0 i; columns = h.1.1.1.1.1.0 i; configuration = h.1.1.1.1.1.1.0 i; created = h.1.1.1.1.1.1.1 i })
    (λ e. (ap (λ m. m.id) e, (ap (λ m. m.name) e, (ap (λ m. m.description) e, (ap (λ m. m.format) e, (ap (λ m. m.schema) e, (ap (λ m. m.columns) e, (ap (λ m. m.configuration) e, ap (λ m. m.created) e))))))))
    (Decides-and _ _ (bytes_eq-Decides a.id b.id) (Decides-and _ _ (option_decides bytes_eq-Decides a.name b.name)
    (Decides-and _ _ (option_decides bytes_eq-Decides a.description b.description) (Decides-and _ _ (format_decides a.format b.format)
    (Decides-and _ _ (bytes_eq-Decides a.schema b.schema) (Decides-and _ _ (texts_decides a.columns b.columns)
    (Decides-and _ _ (pairs_decides a.configuration b.configuration) (option_decides Decides-int_eq a.created b.created))))))))

pub file_decides : (a b : AddFile) → Decides (same_file a b) (a ≡ b)
file_decides a b =
    Decides-like _
    (λ h i. record { path = h.0 i; values = h.1.0 i; size = h.1.1.0 i; modified = h.1.1.1.0 i; data_change = h.1.1.1.1.0 i; stats = h.1.1.1.1.1.0 i; tags = h.1.1.1.1.1.1.0 i; vector = h.1.1.1.1.1.1.1 i })
    (λ e. (ap (λ f. f.path) e, (ap (λ f. f.values) e, (ap (λ f. f.size) e, (ap (λ f. f.modified) e, (ap (λ f. f.data_change) e, (ap (λ f. f.stats) e, (ap (λ f. f.tags) e, ap (λ f. f.vector) e))))))))
    (Decides-and _ _ (bytes_eq-Decides a.path b.path) (Decides-and _ _ (pairs_decides a.values b.values)
    (Decides-and _ _ (Decides-eqb a.size b.size) (Decides-and _ _ (Decides-int_eq a.modified b.modified)
    (Decides-and _ _ (booleans_Decides a.data_change b.data_change) (Decides-and _ _ (option_decides bytes_eq-Decides a.stats b.stats)
    (Decides-and _ _ (option_decides pairs_decides a.tags b.tags) (booleans_Decides a.vector b.vector))))))))
