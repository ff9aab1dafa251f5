-- The table of entries, where one field of one entry is changed.
use Rattle.std.proofs.Common.{◌≡◌, ℕ, ◌<◌, ◌++◌, List, [], ◌∷◌, map, length, refl, sym, ap, ◌∙◌, arith}
use Rattle.std.specs.Prelude.{slice_index_or, slice_set}
use Rattle.std.proofs.lemmas.List.{get_or-map, map-set, map-append}
use Rattle.std.proofs.Math.Seq.{map-set_same}
use Rattle.kn_propagate.specs.declared.chains.Spot.{Spot}
use Rattle.kn_propagate.specs.declared.chains.Entry.{Entry}

abbrev pub nexts_of : List Entry → List ℕ
nexts_of entries = map (λ e. e.next) entries

abbrev pub spots_of : List Entry → List Spot
spots_of entries = map (λ e. e.spot) entries

pub next_set : (entries : List Entry) (i : ℕ) (y : Entry) (nexts : List ℕ) (n : ℕ) → nexts_of entries ≡ nexts → y.next ≡ n → nexts_of (slice_set entries i y) ≡ slice_set nexts i n
next_set entries i y nexts n e f = map-set (λ (x : Entry). x.next) entries i y ∙ ap (λ (xs : List ℕ). slice_set xs i y.next) e ∙ ap (slice_set nexts i) f

pub spot_set : (entries : List Entry) (i : ℕ) (y : Entry) (spots : List Spot) → spots_of entries ≡ spots → spots_of (slice_set entries i y) ≡ slice_set spots i y.spot
spot_set entries i y spots e = map-set (λ (x : Entry). x.spot) entries i y ∙ ap (λ (xs : List Spot). slice_set xs i y.spot) e

pub spot_kept : (entries : List Entry) (i : ℕ) (x y : Entry) (spots : List Spot) → spots_of entries ≡ spots → x ≡ slice_index_or entries i x → y.spot ≡ x.spot → spots_of (slice_set entries i y) ≡ spots
spot_kept entries i x y spots e r f = map-set_same (λ (x : Entry). x.spot) entries i y x (f ∙ ap (λ (x : Entry). x.spot) r) ∙ e

pub even_of : (entries : List Entry) → length (nexts_of entries) ≡ length (spots_of entries)
even_of [] = refl
even_of (x ∷ entries) = omega (arith, even_of entries)

pub long_of : (entries : List Entry) → length (spots_of entries) ≡ length entries
long_of [] = refl
long_of (x ∷ entries) = omega (arith, long_of entries)

pub next_push : (entries : List Entry) (x : Entry) (nexts : List ℕ) → nexts_of entries ≡ nexts → nexts_of (entries ++ x ∷ []) ≡ nexts ++ x.next ∷ []
next_push entries x nexts e = map-append (λ (z : Entry). z.next) entries (x ∷ []) ∙ ap (λ (xs : List ℕ). xs ++ x.next ∷ []) e

pub spot_push : (entries : List Entry) (x : Entry) (spots : List Spot) → spots_of entries ≡ spots → spots_of (entries ++ x ∷ []) ≡ spots ++ x.spot ∷ []
spot_push entries x spots e = map-append (λ (z : Entry). z.spot) entries (x ∷ []) ∙ ap (λ (xs : List Spot). xs ++ x.spot ∷ []) e

pub next_read : (entries : List Entry) (i : ℕ) (x : Entry) (nexts : List ℕ) → nexts_of entries ≡ nexts → i < length entries → x ≡ slice_index_or entries i x → x.next ≡ slice_index_or nexts i 0
next_read entries i x nexts e lt is = ap (λ (z : Entry). z.next) is ∙ sym (get_or-map (λ (z : Entry). z.next) entries i x 0 lt) ∙ ap (λ (z : List ℕ). slice_index_or z i 0) e

pub spot_read : (entries : List Entry) (i : ℕ) (x : Entry) (spots : List Spot) → spots_of entries ≡ spots → i < length entries → x ≡ slice_index_or entries i x → x.spot ≡ slice_index_or spots i (record { owner = 0; place = 0 })
spot_read entries i x spots e lt is = ap (λ (z : Entry). z.spot) is ∙ sym (get_or-map (λ (z : Entry). z.spot) entries i x (record { owner = 0; place = 0 }) lt) ∙ ap (λ (z : List Spot). slice_index_or z i (record { owner = 0; place = 0 })) e
