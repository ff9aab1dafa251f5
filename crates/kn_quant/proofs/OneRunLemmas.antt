-- Pieces have one run.
use Rattle.std.proofs.Common.{ℕ, ◌≡◌, inl, inr, true, false, List, [], ◌∷◌, ◌++◌, map, sym, ap, subst, ◌∙◌, append_assoc}
use Rattle.kn_logic.specs.Groups.{Gathered}
use Rattle.kn_diagram.specs.Wide.{DependsOn, Ignores, IsWide}
use Rattle.kn_quant.specs.Runs.{Function, Step, given, Splits, Empties, IsTurn, Runs, Begins, order_of, clause_function, AreNarrow, IsFirstWide}

not-both : (p : Function) (y : ℕ) → DependsOn p y → Ignores p y → ⊥
not-both p y d i = d.1 (i d.0 true ∙ sym (i d.0 false))

one-split : (y : ℕ) (ps b r b' r' : List Function) → Splits y ps b r → Splits y ps b' r' → (b ≡ b') × (r ≡ r')
one-split y [] b r b' r' s t = (s.0 ∙ sym t.0, s.1 ∙ sym t.1)
one-split y (p ∷ ps) b r b' r' (inl (m, e, d, s)) (inl (m', e', d', t)) =
    let i = one-split y ps m r m' r' s t in (e ∙ ap (λ x. p ∷ x) i.0 ∙ sym e', i.1)
one-split y (p ∷ ps) b r b' r' (inr (m, e, d, s)) (inr (m', e', d', t)) =
    let i = one-split y ps b m b' m' s t in (i.0, e ∙ ap (λ x. p ∷ x) i.1 ∙ sym e')
one-split y (p ∷ ps) b r b' r' (inl (m, e, d, s)) (inr (m', e', g, t)) = absurd (not-both p y d g)
one-split y (p ∷ ps) b r b' r' (inr (m, e, g, s)) (inl (m', e', d, t)) = absurd (not-both p y d g)

one-emptied : (y : ℕ) (ps b r n n' : List Function) (h h' : List Step) (o o' : List (ℕ × Function)) → Empties y ps b r n h o → Empties y ps b r n' h' o'
    → (n ≡ n') × (h ≡ h') × (o ≡ o')
one-emptied y ps [] r n n' h h' o o' e f = (e.0 ∙ sym f.0, e.1 ∙ sym f.1, e.2 ∙ sym f.2)
one-emptied y ps (b ∷ bs) r n n' h h' o o' e f = (e.0 ∙ sym f.0, e.1 ∙ sym f.1, e.2 ∙ sym f.2)

one-turn : (y : ℕ) (ps n n' : List Function) (h h' : List Step) (o o' : List (ℕ × Function)) → IsTurn y ps n h o → IsTurn y ps n' h' o' → (n ≡ n') × (h ≡ h') × (o ≡ o')
one-turn y ps n n' h h' o o' s t =
    let i = one-split y ps s.bucket s.rest t.bucket t.rest s.split t.split in
    one-emptied y ps t.bucket t.rest n n' h h' o o'
    (subst (λ b. Empties y ps b t.rest n h o) i.0 (subst (λ r. Empties y ps s.bucket r n h o) i.1 s.emptied)) t.emptied

pub one-run : (ys : List ℕ) (ps : List Function) (s s' : List Step) (b b' : List (ℕ × Function)) (f f' : Function) → Runs ys ps s b f → Runs ys ps s' b' f'
    → (s ≡ s') × (b ≡ b') × (f ≡ f')
one-run [] ps s s' b b' f f' r q = (r.0 ∙ sym q.0, r.1 ∙ sym q.1, r.2 ∙ sym q.2)
one-run (y ∷ ys) ps s s' b b' f f' (n, h, m, o, l, t, e, g, r) (n', h', m', o', l', t', e', g', r') =
    let i = one-turn y ps n n' h h' o o' t t' in
    let q = one-run ys n' m m' l l' f f' (subst (λ z. Runs ys z m l f) i.0 r) r' in
    (e ∙ (λ j. i.1 j ++ q.0 j) ∙ sym e', g ∙ (λ j. i.2 j ++ q.1 j) ∙ sym g', q.2)

-- the first stages of a run are those of each run
begins-run : (ys : List ℕ) (ps : List Function) (xs s : List Step) (b : List (ℕ × Function)) (f : Function) → Begins ys ps xs → Runs ys ps s b f → (more : List Step) × (s ≡ xs ++ more)
begins-run [] ps xs s b f (more, e) r = (more, r.0 ∙ e)
begins-run (y ∷ ys) ps xs s b f (n, h, o, t, inl (more, e)) (n', h', m', o', l', t', e', g', r') =
    let i = one-turn y ps n n' h h' o o' t t' in
    (more ++ m', e' ∙ ap (λ z. z ++ m') (sym i.1 ∙ e) ∙ append_assoc xs more m')
begins-run (y ∷ ys) ps xs s b f (n, h, o, t, inr (later, e, g)) (n', h', m', o', l', t', e', g', r') =
    let i = one-turn y ps n n' h h' o o' t t' in
    let q = begins-run ys n' later m' l' f (subst (λ z. Begins ys z later) i.0 g) r' in
    (q.0, e' ∙ (λ j. sym i.1 j ++ q.1 j) ∙ sym (append_assoc h later q.0) ∙ ap (λ z. z ++ q.0) (sym e))

narrow-at : (order : List ℕ) (xs more : List Step) (x : Step) → AreNarrow order ((xs ++ x ∷ []) ++ more) → IsWide order (given x) → ⊥
narrow-at order [] more x h w = h.0 w
narrow-at order (y ∷ xs) more x h w = narrow-at order xs more x h.1 w

pub never-wide : (g : Gathered) (s : List Step) (b : List (ℕ × Function)) (f : Function) (stage level : ℕ) → Runs g.aux (map clause_function g.taken) s b f
    → AreNarrow (order_of g) s → IsFirstWide g stage level → ⊥
never-wide g s b f stage level r n w =
    let q = begins-run g.aux (map clause_function g.taken) (w.earlier ++ w.last ∷ []) s b f w.begins r in
    narrow-at (order_of g) w.earlier q.0 w.last (subst (AreNarrow (order_of g)) q.1 n) (level, w.wide)
