-- New numbers: they count the marked ones.
use Rattle.std.proofs.Common.{◌≡◌, ℕ, zero, suc, ◌+◌, ◌-◌, ◌≤◌, ◌<◌, ◌⊎◌, inl, inr, Bool, true, false, cond, ltb, List, [], ◌∷◌, ◌++◌, length, get_or, map, replicate, refl, sym, ap, ◌∙◌, subst, arith}
use Rattle.std.proofs.lemmas.Bool.{cases_order, lt-ltb}
use Rattle.kn_lines.specs.Lines.{AreIds}
use Rattle.kn_trim.specs.Needed.{AreMarked}
use Rattle.kn_trim.specs.Numbers.{mark_at, is_marked, new_number, numbers_from, rises, IsTable}

pub number-zero : (marks : List Bool) → new_number marks zero ≡ 0
number-zero [] = refl
number-zero (m ∷ marks) = refl

pub number-step : (marks : List Bool) (n : ℕ) → new_number marks (suc n) ≡ new_number marks n + cond (mark_at marks n) 1 0
number-step [] n = refl
number-step (m ∷ marks) zero = rw (number-zero marks) (omega arith)
number-step (m ∷ marks) (suc n) = let h = number-step marks n in omega (arith, h)

pub number-below : (marks : List Bool) (n : ℕ) → new_number marks n ≤ n
number-below [] n = omega arith
number-below (m ∷ marks) zero = omega arith
number-below (true ∷ marks) (suc n) = let h = number-below marks n in omega (arith, h)
number-below (false ∷ marks) (suc n) = let h = number-below marks n in omega (arith, h)

pub number-mono : (marks : List Bool) (a b : ℕ) → a ≤ b → new_number marks a ≤ new_number marks b
number-mono [] a b h = omega arith
number-mono (m ∷ marks) zero b h = omega arith
number-mono (m ∷ marks) (suc a) zero h = absurd (omega arith)
number-mono (m ∷ marks) (suc a) (suc b) h = let k = number-mono marks a b (omega arith) in omega (arith, k)

pub number-at : (marks : List Bool) (n : ℕ) (m : Bool) → mark_at marks n ≡ m → new_number marks (n + 1) ≡ new_number marks n + cond m 1 0
number-at marks n m e = subst (λ k. new_number marks k ≡ new_number marks n + cond m 1 0) (omega arith) (number-step marks n ∙ ap (λ b. new_number marks n + cond b 1 0) e)

pub number-strict : (marks : List Bool) (a b : ℕ) → a < b → is_marked marks b ≡ true → new_number marks a < new_number marks b
number-strict marks a zero h e = absurd (omega arith)
number-strict marks a (suc b) h e =
    let below = number-mono marks a b (omega arith) in
    let step = number-step marks b ∙ ap (λ m. new_number marks b + cond m 1 0) e in
    omega (arith, below, step)

pub number-apart : (marks : List Bool) (a b : ℕ) → is_marked marks a ≡ true → is_marked marks b ≡ true → new_number marks a ≡ new_number marks b → a ≡ b
number-apart marks a b ka kb e = decide (cases_order a b)
  where
    decide : (a ≡ b) ⊎ ((a < b) ⊎ (b < a)) → a ≡ b
    decide (inl same) = same
    decide (inr (inl less)) = let h = number-strict marks a b less kb in absurd (omega (arith, h, e))
    decide (inr (inr more)) = let h = number-strict marks b a more ka in absurd (omega (arith, h, e))

pub number_positive : (marks : List Bool) (n : ℕ) → is_marked marks n ≡ true → 1 ≤ new_number marks n
number_positive marks zero e = absurd cc
number_positive marks (suc n) e =
    let step = number-step marks n ∙ ap (λ m. new_number marks n + cond m 1 0) e in
    omega (arith, step)

-- the first numbers, which are all marked
pub first-number : (count : ℕ) (marks : List Bool) (n : ℕ) → n ≤ count → new_number (replicate count true ++ marks) n ≡ n
first-number zero marks zero h = number-zero marks
first-number zero marks (suc n) h = absurd (omega arith)
first-number (suc count) marks zero h = refl
first-number (suc count) marks (suc n) h = let k = first-number count marks n (omega arith) in omega (arith, k)

pub first-marked : (count : ℕ) (marks : List Bool) (n : ℕ) → n < count → mark_at (replicate count true ++ marks) n ≡ true
first-marked zero marks n h = absurd (omega arith)
first-marked (suc count) marks zero h = refl
first-marked (suc count) marks (suc n) h = first-marked count marks n (omega arith)

-- the mark behind others
pub mark-behind : (done rest : List Bool) (m : Bool) → mark_at (done ++ m ∷ rest) (length done) ≡ m
mark-behind [] rest m = refl
mark-behind (x ∷ done) rest m = mark-behind done rest m

-- the table of new numbers
not-above : (n : ℕ) → ltb n (n + 0) ≡ false
not-above n = grind arith

pub rises-from : (marks : List Bool) (count : ℕ) → rises (numbers_from count marks) ≡ marks
rises-from [] count = refl
rises-from (true ∷ []) count = rw (lt-ltb count (count + 1) (omega arith)) refl
rises-from (false ∷ []) count = rw (not-above count) refl
rises-from (true ∷ k ∷ marks) count = rw (lt-ltb count (count + 1) (omega arith), rises-from (k ∷ marks) (count + 1)) refl
rises-from (false ∷ k ∷ marks) count = rw (not-above count, rises-from (k ∷ marks) (count + 0)) refl

pub length-numbers : (marks : List Bool) (count : ℕ) → length (numbers_from count marks) ≡ length marks + 1
length-numbers [] count = refl
length-numbers (m ∷ marks) count = let h = length-numbers marks (count + cond m 1 0) in omega (arith, h)

pub number-read : (marks : List Bool) (count n d : ℕ) → n ≤ length marks → get_or (numbers_from count marks) n d ≡ count + new_number marks n
number-read [] count zero d h = omega arith
number-read [] count (suc n) d h = absurd (omega arith)
number-read (m ∷ marks) count zero d h = omega arith
number-read (m ∷ marks) count (suc n) d h = let k = number-read marks (count + cond m 1 0) n d (omega arith) in omega (arith, k)

pub numbers-more : (marks : List Bool) (m : Bool) (count : ℕ) → numbers_from count marks ++ (count + new_number marks (length marks) + cond m 1 0) ∷ [] ≡ numbers_from count (marks ++ m ∷ [])
numbers-more [] m count = ap (λ n. count ∷ (n + cond m 1 0) ∷ []) (omega arith)
numbers-more (k ∷ marks) m count =
    ap (λ (ns : List ℕ). count ∷ ns) (ap (λ n. numbers_from (count + cond k 1 0) marks ++ n ∷ []) (omega arith) ∙ numbers-more marks m (count + cond k 1 0))

pub table_length : (numbers : List ℕ) → IsTable numbers → length numbers ≡ length (rises numbers) + 1
table_length numbers h = ap length h ∙ length-numbers (rises numbers) 0

pub table_read : (numbers : List ℕ) (n d : ℕ) → IsTable numbers → n ≤ length (rises numbers) → get_or numbers n d ≡ new_number (rises numbers) n
table_read numbers n d h k = ap (λ (ns : List ℕ). get_or ns n d) h ∙ number-read (rises numbers) 0 n d k ∙ omega arith

-- the last new number, and those behind it
last-read : (numbers : List ℕ) (count last d : ℕ) → IsTable numbers → count ≡ length numbers → last ≡ get_or numbers (count - 1) d → last ≡ new_number (rises numbers) (length (rises numbers))
last-read numbers count last d h e r =
    let len = table_length numbers h in
    let here : count - 1 ≡ length (rises numbers) = omega (arith, len, e) in
    r ∙ ap (λ n. get_or numbers n d) here ∙ table_read numbers (length (rises numbers)) d h (omega arith)

pub table_fits : (numbers : List ℕ) (count last d : ℕ) → IsTable numbers → count ≡ length numbers → last ≡ get_or numbers (count - 1) d → last + 1 ≤ count
table_fits numbers count last d h e r =
    let len = table_length numbers h in
    let read = last-read numbers count last d h e r in
    let below = number-below (rises numbers) (length (rises numbers)) in
    omega (arith, len, read, below, e)

pub table_more : (numbers : List ℕ) (count last d : ℕ) (m : Bool) → IsTable numbers → count ≡ length numbers → last ≡ get_or numbers (count - 1) d → numbers ++ (last + cond m 1 0) ∷ [] ≡ numbers_from 0 (rises numbers ++ m ∷ [])
table_more numbers count last d m h e r =
    let read = last-read numbers count last d h e r in
    ap (λ (ns : List ℕ). ns ++ (last + cond m 1 0) ∷ []) h ∙ ap (λ i. numbers_from 0 (rises numbers) ++ (i + cond m 1 0) ∷ []) (read ∙ omega arith) ∙ numbers-more (rises numbers) m 0

pub more-rises : (numbers next : List ℕ) (m : Bool) → next ≡ numbers_from 0 (rises numbers ++ m ∷ []) → rises next ≡ rises numbers ++ m ∷ []
more-rises numbers next m e = ap rises e ∙ rises-from (rises numbers ++ m ∷ []) 0

pub more-table : (numbers next : List ℕ) (m : Bool) → next ≡ numbers_from 0 (rises numbers ++ m ∷ []) → IsTable next
more-table numbers next m e = e ∙ ap (numbers_from 0) (sym (more-rises numbers next m e))

pub marked_within : (marks : List Bool) (n : ℕ) → is_marked marks n ≡ true → n ≤ length marks
marked_within marks zero e = omega arith
marked_within marks (suc place) e = let k = at-within marks place e in omega (arith, k)
  where
    at-within : (marks : List Bool) (place : ℕ) → mark_at marks place ≡ true → place < length marks
    at-within [] place e = absurd cc
    at-within (m ∷ marks) zero e = omega arith
    at-within (m ∷ marks) (suc place) e = let k = at-within marks place e in omega (arith, k)

pub new_are_ids : (marks : List Bool) (ids : List ℕ) → AreMarked marks ids → AreIds (map (new_number marks) ids)
new_are_ids marks [] k = tt
new_are_ids marks (id ∷ ids) k = (number_positive marks id k.0, new_are_ids marks ids k.1)
