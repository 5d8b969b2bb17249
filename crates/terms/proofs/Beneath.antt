-- A drawing asks only of the parts beneath it.
use Rattle.std.proofs.Common.{◌≡◌, ℕ, eqb, List, [], ◌∷◌, sym, refl, ap, ◌∙◌}
use Rattle.std.proofs.lemmas.Bool.{eq-eqb, cond-true}
use Rattle.kinds.specs.declared.performance.Performance
use Rattle.kinds.specs.declared.weight.Weight
use Rattle.terms.specs.declared.term.Way.{Way}
use Rattle.terms.specs.Rows.{weight_at}
use Rattle.terms.specs.Combinations.{each, term}
use Rattle.terms.specs.Drawings.{Drawing, part, joined, bridge, Children, one, more, PartList, only, and, followed_by, all_parts, all_parts_of, parts_beneath}
use Rattle.terms.specs.Enumeration.{but, picks, performance_of, weight_of, combination}
use Rattle.terms.specs.Readings.{as_part, as_joined, as_bridge, and_then, in_place, reading, items}
use Rattle.terms.specs.EnumerationLaws.{OnlyPartsBeneath, OnePartOnly, PickedOnce}
use Rattle.terms.specs.ReadingLaws.{OnlyPartsRead}
use Rattle.terms.proofs.Each.{each_through}
use Rattle.terms.proofs.Picks.{AgreeOn, agree_from, agree_followed, has_once}

picks_ask : {S : Type 0} (states states' : ℕ → List S) (ns : PartList) → AgreeOn ns states states' → picks states ns ≡ picks states' ns
picks_ask states states' (only n) a = ap (λ l. each l λ s. (λ _. s) ∷ []) a
picks_ask states states' (and n ns) a = λ i. each (a.0 i) λ s. each (picks_ask states states' ns a.1 i) λ pick. but n s pick ∷ []

module _ {D : Type 0} (f g : ℕ → D) where
  mutual
    reading_asks : (d : Drawing) → AgreeOn (all_parts d) f g → reading f d ≡ reading g d
    reading_asks (part n) a = ap as_part a
    reading_asks (joined way ds) a = ap (as_joined way) (items_ask way ds a)
    reading_asks (bridge a b c d e) h =
        let h₄ = agree_followed (followed_by (followed_by (followed_by (all_parts a) (all_parts b)) (all_parts c)) (all_parts d)) (all_parts e) f g h in
        let h₃ = agree_followed (followed_by (followed_by (all_parts a) (all_parts b)) (all_parts c)) (all_parts d) f g h₄.0 in
        let h₂ = agree_followed (followed_by (all_parts a) (all_parts b)) (all_parts c) f g h₃.0 in
        let h₁ = agree_followed (all_parts a) (all_parts b) f g h₂.0 in
        λ i. as_bridge (reading_asks a h₁.0 i) (reading_asks b h₁.1 i) (reading_asks c h₂.1 i) (reading_asks d h₃.1 i) (reading_asks e h₄.1 i)

    items_ask : (way : Way) (ds : Children) → AgreeOn (all_parts_of ds) f g → items f way ds ≡ items g way ds
    items_ask way (one d) a = ap (in_place way) (reading_asks d a)
    items_ask way (more ds d) a =
        let s = agree_followed (all_parts_of ds) (all_parts d) f g a in
        λ i. and_then (items_ask way ds s.0 i) (in_place way (reading_asks d s.1 i))

module _ {P W : Type 0} (kind : Performance.Ghosts P) (weights : Weight.Ghosts W) where
  pub only_parts_beneath : OnlyPartsBeneath kind weights
  only_parts_beneath states states' d h =
      ap (λ ps. each ps λ pick. combination kind weights d pick ∷ [])
      (picks_ask states states' (parts_beneath d) (agree_from (parts_beneath d) states states' (λ n e. h n (sym (has_once n (all_parts d)) ∙ e))))

  pub only_parts_read : OnlyPartsRead kind weights
  only_parts_read states states' d h = reading_asks _ _ d (agree_from (all_parts d) _ _ (λ n e. ap (weight_at kind weights) (h n e)))

  pub one_part_only : OnePartOnly kind weights
  one_part_only states d n e =
      ap (λ ns. each (picks states ns) λ pick. term (performance_of kind d pick) (weight_of weights ns pick) ∷ []) e
      ∙ each_through (states n) (λ s _. s) (λ pick. term (performance_of kind d pick) (pick n).weight ∷ [])

  pub picked_once : PickedOnce kind weights
  picked_once states way n = one_part_only states (joined way (more (one (part n)) (part n))) n (cond-true (eqb n n) (only n) (and n (only n)) (eq-eqb n n refl))
