-- The results of an operation as the entries of a table.
use Rattle.std.proofs.Common.{ℕ, ◌≡◌, ◌==◌, ◌&&◌, ◌+◌, ◌∙◌, Bool, true, false, if◌then◌else◌, List, [], ◌∷◌, ◌++◌, map, take, slice_get, refl, sym, ap, Some, None}
use Rattle.std.specs.Map.{lookup}
use Rattle.std.specs.Option.{option_map}
use Rattle.std.proofs.lemmas.Bool.{cond-true, cond-false}
use Rattle.std.proofs.lemmas.Option.{slice_get-map, slice_get_within, get_or_from_slice_get}
use Rattle.std.proofs.lemmas.Grind.{take_at_read}
use Rattle.indexmap.specs.IndexMap.{insert_entry}
use Rattle.kn_diagram.specs.Traces.{found, met_of}

pub found-lookup : (u v : ℕ) (es : List ((ℕ × ℕ) × ℕ)) → found (map met_of es) u v ≡ lookup (λ y. (u == y.0) && (v == y.1)) es
found-lookup u v [] = refl
found-lookup u v (e ∷ es) = ap (λ x. if (u == e.0.0) && (v == e.0.1) then Some e.1 else x) (found-lookup u v es)

abbrev pub same_pair : ℕ × ℕ → ℕ × ℕ → Bool
same_pair k x = (k.0 == x.0) && (k.1 == x.1)

-- a pair that is not there goes last
pub insert-found : (u v w : ℕ) (es : List ((ℕ × ℕ) × ℕ)) → found (map met_of es) u v ≡ None
    → map met_of (insert_entry same_pair es (u, v) w) ≡ map met_of es ++ record { u = u; v = v; w = w } ∷ []
insert-found u v w [] h = refl
insert-found u v w (e ∷ es) h = by (same_pair (u, v) e.0) refl (insert-found u v w es)
  where
    by : (b : Bool) → same_pair (u, v) e.0 ≡ b
        → (found (map met_of es) u v ≡ None → map met_of (insert_entry same_pair es (u, v) w) ≡ map met_of es ++ record { u = u; v = v; w = w } ∷ [])
        → map met_of (insert_entry same_pair (e ∷ es) (u, v) w) ≡ map met_of (e ∷ es) ++ record { u = u; v = v; w = w } ∷ []
    by true t rest =
        let some : Some e.1 ≡ None = sym (cond-true (same_pair (u, v) e.0) (Some e.1) (found (map met_of es) u v) t) ∙ h in absurd (cc)
    by false t rest =
        ap (map met_of) (cond-false (same_pair (u, v) e.0) ((e.0, w) ∷ es) (e ∷ insert_entry same_pair es (u, v) w) t)
        ∙ ap (λ x. met_of e ∷ x) (rest (sym (cond-false (same_pair (u, v) e.0) (Some e.1) (found (map met_of es) u v) t) ∙ h))

pub taken-one_more : (es : List ((ℕ × ℕ) × ℕ)) (i : ℕ) (pair : ℕ × ℕ) (w : ℕ) → Some (pair, w) ≡ slice_get es i
    → take (i + 1) (map met_of es) ≡ take i (map met_of es) ++ met_of (pair, w) ∷ []
taken-one_more es i pair w h =
    let g : slice_get (map met_of es) i ≡ Some (met_of (pair, w)) = slice_get-map met_of es i ∙ ap (option_map met_of) (sym h) in
    (take_at_read (map met_of es) i (met_of (pair, w)) (slice_get_within (map met_of es) i (met_of (pair, w)) g)).1
    ∙ ap (λ x. take i (map met_of es) ++ x ∷ []) (get_or_from_slice_get (map met_of es) i (met_of (pair, w)) (met_of (pair, w)) g)
