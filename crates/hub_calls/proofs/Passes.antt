-- What a turn does to a pass.
use Rattle.std.proofs.Common.{◌≡◌, List, ◌++◌, Some, false, sym, ap, ◌∙◌, append_assoc}
use mathlib.Core.List.{IsPrefix}
use Rattle.turn_cell.specs.Passes.{mine}
use Rattle.share_book.specs.declared.entry.Entry.{Entry}
use Rattle.share_book.specs.History.{caller_of, open_on}
use Rattle.share_book.specs.Legal.{IsLegal}
use Rattle.share_book.proofs.Still.{Stands, still}
use Rattle.hub_calls.specs.Calls.{Adds, IsIdle, P}

pub prefix_push : (xs ys zs own : List Entry) → IsPrefix xs ys → zs ≡ ys ++ own → IsPrefix xs zs
prefix_push xs ys zs own p q = (p.0 ++ own, sym (append_assoc xs p.0 own) ∙ (ap (λ l. l ++ own) p.1 ∙ sym q))

pub prefix_more : (xs ys zs : List Entry) → IsPrefix xs ys → IsPrefix ys zs → IsPrefix xs zs
prefix_more xs ys zs p q = prefix_push xs ys zs q.0 p (sym q.1)

-- what taking the turn does to a pass, and what giving it back does
pub record Took (p t : P) : Type 0 where
  pub same : (t.cell ≡ p.cell) × (t.number ≡ p.number)
  pub seen : IsPrefix p.seen t.seen
  pub kept : mine caller_of t ≡ mine caller_of p

pub record Gave (t q : P) (h : List Entry) : Type 0 where
  pub same : (q.cell ≡ t.cell) × (q.number ≡ t.number)
  pub idle : q.holds ≡ false
  pub seen : q.seen ≡ h
  pub kept : (own : List Entry) → h ≡ t.seen ++ own → mine caller_of q ≡ mine caller_of t ++ own

pub idle : (p t q : P) (h own : List Entry) → Took p t → Gave t q h → h ≡ t.seen ++ own → IsIdle p q
idle p t q h own a b e = record {
  cell = b.same.0 ∙ a.same.0;
  number = b.same.1 ∙ a.same.1;
  holds = b.idle;
  seen = prefix_push p.seen t.seen q.seen own a.seen (b.seen ∙ e);
}

pub adds : (p t q : P) (h own : List Entry) → Took p t → Gave t q h → h ≡ t.seen ++ own → Adds p q own
adds p t q h own a b e = b.kept own e ∙ ap (λ l. l ++ own) a.kept

-- nothing else stands on the catalogue than before
pub stands : (p t : P) → Took p t → IsLegal t.seen → open_on 0 p.seen ≡ Some p.number → Stands p.number p.seen t.seen
stands p t a l o = still p t l a.same.1 a.kept a.seen o

pub idle_more : (p q r : P) → IsIdle p q → IsIdle q r → IsIdle p r
idle_more p q r a b = record { cell = b.cell ∙ a.cell; number = b.number ∙ a.number; holds = b.holds; seen = prefix_more p.seen q.seen r.seen a.seen b.seen }

-- what two calls add
pub adds_more : (p q r : P) (xs ys : List Entry) → Adds p q xs → Adds q r ys → Adds p r (xs ++ ys)
adds_more p q r xs ys a b = b ∙ (ap (λ l. l ++ ys) a ∙ append_assoc _ xs ys)
