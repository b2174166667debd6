-- What is read of the fields that were written.
use Rattle.std.proofs.Common.{◌≡◌, ℕ, List, [], ◌∷◌, true, Option, Some, None, Ok, option_map, option_and_then, Ordering, refl, sym, ap, ◌∙◌, subst}
use Rattle.std.specs.Prelude.{⊤}
use Rattle.std.specs.List.{list_all}
use Rattle.std.specs.Ordering.{nat_cmp, is_gt, match_ordering, ordering_reverse}
use Rattle.std.specs.declared.cmp.Ordering.TheVariants.{Less, Equal, Greater}
use Rattle.std.specs.Cmp.Lexicographic.{slice_cmp}
use Rattle.std.specs.FinMap.{nat_cmp-IsAntisymmetric, slice_cmp-IsAntisymmetric}
use Rattle.std.proofs.lemmas.Cmp.{nat_list_cmp_total}
use Rattle.std.proofs.lemmas.Bool.{and_parts}
use Rattle.serde_json.specs.Data.{Data, string}
use Rattle.serde_json.specs.Find.{get_member, as_str}
use Rattle.json_tree.specs.Fields.{non_null, present, field, read_as, or_wrong, texts_of, pair_in, pairs_of}
use Rattle.json_tree.specs.Fields as fields
use Rattle.json_tree.specs.Fields.{texts, pairs}
use Rattle.json_print.specs.Fields.{Field, members_of, object_of, ascend}
use Rattle.json_print.specs.Values.{text_or_null, text_items, texts_value, pair_members, pairs_value}

-- the value of that name among fields in order
abbrev pub value_in : List ℕ → List Field → Option Data
value_in k [] = None
value_in k ((l, value) ∷ more) = match_ordering (slice_cmp nat_cmp k l) (value_in k more) value (value_in k more)

pub is_greater : (o : Ordering) → is_gt o ≡ true → o ≡ Greater
is_greater Less e = cc
is_greater Equal e = cc
is_greater Greater e = refl

-- the other way round
pub below : (k l : List ℕ) → is_gt (slice_cmp nat_cmp l k) ≡ true → slice_cmp nat_cmp k l ≡ Less
below k l e = nat_list_cmp_total.antisymm k l ∙ ap ordering_reverse (is_greater (slice_cmp nat_cmp l k) e)

-- a name below all others isn't there
absent : (k : List ℕ) (fields : List Field) → list_all (λ g. is_gt (slice_cmp nat_cmp g.0 k)) fields ≡ true → get_member k (members_of fields) ≡ None
absent k [] e = refl
absent k ((l, None) ∷ more) e = absent k more (and_parts _ _ e).1
absent k ((l, Some d) ∷ more) e =
    ap (λ o. match_ordering o (get_member k (members_of more)) (Some d) (get_member k (members_of more))) (below k l (and_parts _ _ e).0) ∙ absent k more (and_parts _ _ e).1

left_out : (k l : List ℕ) (more : List Field) (o : Ordering) → slice_cmp nat_cmp k l ≡ o → list_all (λ g. is_gt (slice_cmp nat_cmp g.0 l)) more ≡ true
    → get_member k (members_of more) ≡ value_in k more → get_member k (members_of more) ≡ match_ordering o (value_in k more) None (value_in k more)
left_out k l more Less is e rest = rest
left_out k l more Equal is e rest =
    subst (λ n. get_member n (members_of more) ≡ None) (sym (slice_cmp-IsAntisymmetric nat_cmp-IsAntisymmetric k l is)) (absent l more e)
left_out k l more Greater is e rest = rest

pub get-members_of : (k : List ℕ) (fields : List Field) → ascend fields ≡ true → get_member k (members_of fields) ≡ value_in k fields
get-members_of k [] e = refl
get-members_of k ((l, None) ∷ more) e = left_out k l more (slice_cmp nat_cmp k l) refl (and_parts _ _ e).0 (get-members_of k more (and_parts _ _ e).1)
get-members_of k ((l, Some d) ∷ more) e =
    ap (λ v. match_ordering (slice_cmp nat_cmp k l) v (Some d) v) (get-members_of k more (and_parts _ _ e).1)

-- a value that is read as what it was made of
abbrev pub ReadsBack : {X : Type 0} → (Data → Option X) → (X → Data) → X → Type 0
ReadsBack kind build x = (non_null (build x) ≡ Some (build x)) × (kind (build x) ≡ Some x)

abbrev pub OnSomeReadsBack : {X : Type 0} → (Data → Option X) → (X → Data) → Option X → Type 0
OnSomeReadsBack kind build None = ⊤
OnSomeReadsBack kind build (Some x) = ReadsBack kind build x

value_back : {X : Type 0} (kind : Data → Option X) (build : X → Data) (o : Option X) → OnSomeReadsBack kind build o
    → read_as kind (option_and_then non_null (option_map build o)) ≡ Ok o
value_back kind build None h = refl
value_back kind build (Some x) h = ap (read_as kind) h.0 ∙ ap (λ r. or_wrong (option_map Some r)) h.1

-- the field of that name is read as what it was made of
pub field_back : {X : Type 0} (kind : Data → Option X) (build : X → Data) (name : List ℕ) (fields : List Field) (o : Option X)
    → ascend fields ≡ true → value_in name fields ≡ option_map build o → OnSomeReadsBack kind build o → field kind name (object_of fields) ≡ Ok o
field_back kind build name fields o e is h =
    ap (λ v. read_as kind (option_and_then non_null v)) (get-members_of name fields e ∙ is) ∙ value_back kind build o h

-- a field that isn't there
pub absent_back : (name : List ℕ) (fields : List Field) → ascend fields ≡ true → value_in name fields ≡ None → present name (object_of fields) ≡ None
absent_back name fields e is = ap (option_and_then non_null) (get-members_of name fields e ∙ is)

-- ---- kinds

texts-text_items : (texts : List (List ℕ)) → texts_of (text_items texts) ≡ Some texts
texts-text_items [] = refl
texts-text_items (s ∷ more) = ap (option_map (λ rest. s ∷ rest)) (texts-text_items more)

text-text_or_null : (o : Option (List ℕ)) → fields.text_or_null (text_or_null o) ≡ Some o
text-text_or_null None = refl
text-text_or_null (Some s) = refl

pairs-pair_members : (pairs : List (List ℕ × Option (List ℕ))) → pairs_of (pair_members pairs) ≡ Some pairs
pairs-pair_members [] = refl
pairs-pair_members ((name, value) ∷ more) =
    ap (λ v. option_and_then (λ p. option_map (λ rest. p ∷ rest) (pairs_of (pair_members more))) (option_map (λ v. (name, v)) v)) (text-text_or_null value)
    ∙ ap (option_map (λ rest. (name, value) ∷ rest)) (pairs-pair_members more)

pub text_read : (s : List ℕ) → ReadsBack as_str string s
text_read s = (refl, refl)

pub texts_read : (list : List (List ℕ)) → ReadsBack texts texts_value list
texts_read list = (refl, texts-text_items list)

pub pairs_read : (list : List (List ℕ × Option (List ℕ))) → ReadsBack pairs pairs_value list
pairs_read list = (refl, pairs-pair_members list)

pub some_text_read : (o : Option (List ℕ)) → OnSomeReadsBack as_str string o
some_text_read None = tt
some_text_read (Some s) = text_read s

pub some_texts_read : (o : Option (List (List ℕ))) → OnSomeReadsBack texts texts_value o
some_texts_read None = tt
some_texts_read (Some list) = texts_read list

pub some_pairs_read : (o : Option (List (List ℕ × Option (List ℕ)))) → OnSomeReadsBack pairs pairs_value o
some_pairs_read None = tt
some_pairs_read (Some list) = pairs_read list
