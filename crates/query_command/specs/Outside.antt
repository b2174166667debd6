-- The outside of a run, as contracts see it.
use Rattle.std.specs.Prelude.{ℕ, List, Bool, Option, refl}
use Rattle.std.specs.Coded.{Coded, code_by, coded×, coded_ℕ, coded_bool, coded_list, coded_option}
use Rattle.std.specs.FinMap as map
use Rattle.edge_core.specs.Objects.{Objects}

-- What the objects of the outside tell at one moment, none where they don't tell, and their counts of faults. `stored` is how many puts the store has stored, `coming` what the clock is still to tell.
pub record Outside : Type 0 where
  pub left : Option (List ℕ)
  pub read_faults : ℕ
  pub objects : Option Objects
  pub alone : Bool
  pub store_faults : ℕ
  pub stored : ℕ
  pub held : Option (List ℕ)
  pub write_faults : ℕ
  pub noted : Option (List ℕ)
  pub note_faults : ℕ
  pub coming : Option (List ℕ)

-- how a proof tells two of them apart
abbrev pub outside_code : Coded Outside
outside_code =
    code_by (Option (List ℕ) × (ℕ × (Option Objects × (Bool × (ℕ × (ℕ × (Option (List ℕ) × (ℕ × (Option (List ℕ) × (ℕ × Option (List ℕ)))))))))))
    (coded× told (coded× coded_ℕ (coded× (coded_option (map.code (coded_list coded_ℕ) (coded_list coded_ℕ))) (coded× coded_bool (coded× coded_ℕ (coded× coded_ℕ (coded× told (coded× coded_ℕ (coded× told (coded× coded_ℕ told))))))))))
    (λ o. (o.left, (o.read_faults, (o.objects, (o.alone, (o.store_faults, (o.stored, (o.held, (o.write_faults, (o.noted, (o.note_faults, o.coming)))))))))))
    (λ p. record { left = p.0; read_faults = p.1.0; objects = p.1.1.0; alone = p.1.1.1.0; store_faults = p.1.1.1.1.0; stored = p.1.1.1.1.1.0; held = p.1.1.1.1.1.1.0; write_faults = p.1.1.1.1.1.1.1.0; noted = p.1.1.1.1.1.1.1.1.0; note_faults = p.1.1.1.1.1.1.1.1.1.0; coming = p.1.1.1.1.1.1.1.1.1.1 })
    (λ _. refl)
  where
    told : Coded (Option (List ℕ))
    told = coded_option (coded_list coded_ℕ)
