-- The elimination of a group's auxiliary variables, said of functions alone. A function takes the values
-- of variables to a truth value; a piece is a function that is still to be joined.
use Rattle.std.specs.Prelude.{ℕ, ◌≡◌, ◌+◌, ◌&&◌, ◌⊎◌, Bool, true, false, List, [], ◌∷◌, ◌++◌, length, map, reverse}
use Rattle.std.specs.List.{list_any, AllByRecursion}
use Rattle.kn_logic.specs.Constraints.{Bounded}
use Rattle.kn_logic.specs.Groups.{Gathered, is_among}
use Rattle.kn_diagram.specs.Diagrams.{is_true_by}
use Rattle.kn_diagram.specs.Wide.{DependsOn, Ignores, IsWideAt, IsWide}
use Rattle.kn_quant.specs.Quantified.{some_value}

abbrev pub Function : Type 0
Function = (ℕ → Bool) → Bool

abbrev pub both : Function → Function → Function
both f g v = f v && g v

-- A stage of a run: two functions are joined by "and", or a variable is quantified in one.
pub data Step : Type 0 where
  Join : (left right : (ℕ → Bool) → Bool) → Step
  Quantify : (variable : ℕ) (from : (ℕ → Bool) → Bool) → Step

-- the function that a stage gives
abbrev pub given : Step → Function
given (Join left right) = both left right
given (Quantify variable from) = some_value variable from

-- Functions are joined from the first on: the stages, and the whole conjunction.
abbrev pub joins : Function → List Function → List Step
joins p [] = []
joins p (q ∷ qs) = Join p q ∷ joins (both p q) qs

abbrev pub whole : Function → List Function → Function
whole p [] = p
whole p (q ∷ qs) = whole (both p q) qs

-- the same of any number of functions: of none, "always true"
abbrev pub all_joins : List Function → List Step
all_joins [] = []
all_joins (p ∷ ps) = joins p ps

abbrev pub all_whole : List Function → Function
all_whole [] = λ v. true
all_whole (p ∷ ps) = whole p ps

-- The bucket of a variable is the pieces that depend on it; the rest ignores it. Both are in order.
abbrev pub Splits : ℕ → List Function → List Function → List Function → Type 0
Splits y [] bucket rest = (bucket ≡ []) × (rest ≡ [])
Splits y (p ∷ ps) bucket rest =
    ((more : List Function) × (bucket ≡ p ∷ more) × DependsOn p y × Splits y ps more rest)
    ⊎ ((more : List Function) × (rest ≡ p ∷ more) × Ignores p y × Splits y ps bucket more)

-- What becomes of the pieces, with the stages and the function of the bucket. Where the bucket is empty
-- nothing happens; else its pieces are joined and go, and "for some value of the variable, their
-- conjunction" becomes the last piece.
abbrev pub Empties : ℕ → List Function → List Function → List Function → List Function → List Step → List (ℕ × Function) → Type 0
Empties y pieces [] rest next steps own = (next ≡ pieces) × (steps ≡ []) × (own ≡ [])
Empties y pieces (b ∷ bs) rest next steps own =
    (next ≡ rest ++ some_value y (whole b bs) ∷ [])
    × (steps ≡ joins b bs ++ Quantify y (whole b bs) ∷ [])
    × (own ≡ (y, whole b bs) ∷ [])

-- the turn of one variable
pub record IsTurn (y : ℕ) (pieces next : List ((ℕ → Bool) → Bool)) (steps : List Step) (own : List (ℕ × ((ℕ → Bool) → Bool))) : Type 0 where
  pub bucket : List ((ℕ → Bool) → Bool)
  pub rest : List ((ℕ → Bool) → Bool)
  pub split : Splits y pieces bucket rest
  pub emptied : Empties y pieces bucket rest next steps own

-- A run takes the variables in turn, and joins the pieces that remain.
abbrev pub Runs : List ℕ → List Function → List Step → List (ℕ × Function) → Function → Type 0
Runs [] pieces steps buckets result = (steps ≡ all_joins pieces) × (buckets ≡ []) × (result ≡ all_whole pieces)
Runs (y ∷ ys) pieces steps buckets result =
    (next : List Function) × (here : List Step) × (more : List Step) × (own : List (ℕ × Function)) × (later : List (ℕ × Function))
    × IsTurn y pieces next here own × (steps ≡ here ++ more) × (buckets ≡ own ++ later) × Runs ys next more later result

-- These are the first stages of a run.
abbrev pub Begins : List ℕ → List Function → List Step → Type 0
Begins [] pieces steps = (more : List Step) × (all_joins pieces ≡ steps ++ more)
Begins (y ∷ ys) pieces steps =
    (next : List Function) × (here : List Step) × (own : List (ℕ × Function)) × IsTurn y pieces next here own
    × (((more : List Step) × (here ≡ steps ++ more)) ⊎ ((later : List Step) × (steps ≡ here ++ later) × Begins ys next later))

-- The order of the diagrams' variables, from the top: the auxiliary ones descending, then those of the
-- border descending.
abbrev pub order_of : Gathered → List ℕ
order_of g = reverse (map (λ l. l.variable) g.border ++ g.aux)

-- the function of a clause: some literal is true
abbrev pub clause_function : Bounded → Function
clause_function c v = list_any (is_true_by v) c.lits

-- no stage gives a wide function
abbrev pub AreNarrow : List ℕ → List Step → Type 0
AreNarrow order steps = AllByRecursion (λ s. IsWide order (given s) → ⊥) steps

-- A run of the group comes to a wide stage, the first that is wide. It is wide at this variable. Stages
-- count from 1.
pub record IsFirstWide (g : Gathered) (stage level : ℕ) : Type 0 where
  pub earlier : List Step
  pub last : Step
  pub begins : Begins g.aux (map clause_function g.taken) (earlier ++ last ∷ [])
  pub count : stage ≡ length earlier + 1
  pub narrow : AreNarrow (order_of g) earlier
  pub wide : IsWideAt (order_of g) (given last) level

-- Two assignments of values differ at these variables alone.
abbrev pub AgreeBut : List ℕ → (ℕ → Bool) → (ℕ → Bool) → Type 0
AgreeBut variables v w = (x : ℕ) → is_among variables x ≡ false → w x ≡ v x

-- Some values of the auxiliary variables satisfy all clauses that were taken.
abbrev pub CanHold : Gathered → (ℕ → Bool) → Type 0
CanHold g v = (w : ℕ → Bool) × AgreeBut g.aux v w × AllByRecursion (λ c. clause_function c w ≡ true) g.taken

-- Two assignments of values agree at the border.
abbrev pub AgreeAtBorder : Gathered → (ℕ → Bool) → (ℕ → Bool) → Type 0
AgreeAtBorder g v w = AllByRecursion (λ l. v l.variable ≡ w l.variable) g.border
