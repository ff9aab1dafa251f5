-- The whole extraction keeps models both ways.
use Rattle.std.proofs.Common.{◌≡◌, Bool, List, [], ◌∷◌, ◌++◌, length, refl, sym, ap, subst, ◌∙◌, append_assoc}
use Rattle.std.specs.List.{range_with_len}
use Rattle.kn_logic.specs.Formulas.{Problem, IsFormula, Satisfies}
use Rattle.kn_logic.specs.Groups.{is_among}
use Rattle.kn_store.specs.Stores.{problem_of}
use Rattle.kn_extract.specs.Extractions.{Found, IsSeedTaken, IsPairTaken, IsExtraction, stored_of, listed, AgreeOff}
use Rattle.kn_extract.proofs.Moments.{start-same}
use Rattle.kn_extract.proofs.Steps.{tries-formula, tries-on, tries-back, among-parts}
use Rattle.kn_extract.proofs.SeedSteps.{seed-step}
use Rattle.kn_extract.proofs.PairSteps.{pair-step}

pub start-formula : (f : Problem) → IsFormula f → IsFormula (problem_of (stored_of f))
start-formula f fits = subst IsFormula (sym (start-same f)) fits

pub middle-formula : (f last : Problem) (found : List Found) → IsFormula f → (e : IsExtraction f found last) → IsFormula (problem_of e.middle)
middle-formula f last found fits e = tries-formula IsSeedTaken seed-step (range_with_len 1 f.vars) (stored_of f) e.seeded e.middle e.seeds (start-formula f fits)

pub onward : (f last : Problem) (found : List Found) (values : List Bool) → IsFormula f → IsExtraction f found last → Satisfies values f → Satisfies values last
onward f last found values fits e h =
    subst (Satisfies values) (sym e.last_is)
    (tries-on IsPairTaken pair-step values (range_with_len 1 (length f.constraints)) e.middle e.paired e.rest e.starts (middle-formula f last found fits e)
    (tries-on IsSeedTaken seed-step values (range_with_len 1 f.vars) (stored_of f) e.seeded e.middle e.seeds (start-formula f fits) (subst (Satisfies values) (sym (start-same f)) h)))

listed-append : (xs ys : List Found) → listed (xs ++ ys) ≡ listed xs ++ listed ys
listed-append [] ys = refl
listed-append (x ∷ xs) ys = ap (λ z. x.group.aux ++ z) (listed-append xs ys) ∙ sym (append_assoc x.group.aux (listed xs) (listed ys))

pub back : (f last : Problem) (found : List Found) (values : List Bool) → IsFormula f → IsExtraction f found last → Satisfies values last
    → (other : List Bool) × Satisfies other f × AgreeOff (listed found) values other
back f last found values fits e h =
    let b = tries-back IsPairTaken pair-step values (range_with_len 1 (length f.constraints)) e.middle e.paired e.rest e.starts (middle-formula f last found fits e) (subst (Satisfies values) e.last_is h) in
    let a = tries-back IsSeedTaken seed-step b.other (range_with_len 1 f.vars) (stored_of f) e.seeded e.middle e.seeds (start-formula f fits) b.models in (
      a.other,
      subst (Satisfies a.other) (start-same f) a.models,
      λ x low off.
          let p = among-parts (listed e.seeded) (listed e.paired) x (sym (ap (λ z. is_among z x) (ap listed e.found_are ∙ listed-append e.seeded e.paired)) ∙ off) in
          a.agrees x low p.0 ∙ b.agrees x low p.1,
    )
