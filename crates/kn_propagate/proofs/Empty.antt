-- An engine without constraints.
use Rattle.std.proofs.Common.{◌≡◌, ℕ, zero, suc, ◌+◌, ◌*◌, ◌^◌, ◌<◌, List, [], Option, None, length, replicate, refl, ◌∙◌, arith}
use Rattle.std.specs.Prelude.{slice_index_or}
use Rattle.std.proofs.lemmas.List.{get_or-replicate}
use Rattle.kn_propagate.specs.Chains.{hand_of}
use Rattle.kn_propagate.specs.Wholes.{IsTabled, IsWhole}

abbrev zeros : ℕ → List ℕ
zeros n = replicate n 0

length-zeros : (n : ℕ) → length (zeros n) ≡ n
length-zeros zero = refl
length-zeros (suc n) = omega (arith, length-zeros n)

head_zero : (n k : ℕ) → k < length (zeros n) → slice_index_or (zeros n) k 0 ≡ 0
head_zero n k lt = get_or-replicate n k 0 0 (omega (arith, lt, length-zeros n))

tabled_new : (vars n : ℕ) → 2 * vars + 3 < 2 ^ 64 → n ≡ 2 * vars + 3 → IsTabled (record { vars = vars; level = 0; made = [] }) [] (record { spots = []; nexts = []; heads = zeros n; spare = 0; room = 0 }) 0 []
tabled_new vars n small q = record {
  small = small;
  sized = length-zeros n ∙ q;
  visited_ = omega arith;
  few = omega arith;
  kept = λ slot lt. absurd (omega (arith, lt));
  fresh = record { trail = record { known = tt; different = tt; rising = tt }; fresh = λ m h. h };
  founded = λ place m e. absurd cc;
  begun = λ k a b. absurd (omega (arith, a, b));
  still = record {
    from = 0;
    chain = λ j. [];
    home = λ e. 0;
    wired = record {
      chains = record { spelled = λ j lt. head_zero n j lt; homes = λ j e lt i. absurd cc };
      linked = record {
        numbered = λ j e lt i. absurd cc;
        owned = λ j e lt i. absurd cc;
        placed = λ j e lt i. absurd cc;
        watched = λ j e lt i. absurd cc;
        coded = λ j e lt i. absurd cc;
        apart = λ j k d e a b i m s. absurd cc;
        all = λ slot place sl pl wa. absurd (omega (arith, sl));
      };
      long = refl;
      some = omega (arith, length-zeros n, q);
    };
    empty = head_zero n (hand_of (zeros n)) (omega (arith, length-zeros n, q));
  };
  spare = ([], refl, λ e i. absurd cc);
  rest = λ slot lt. absurd (omega (arith, lt));
  narrow = λ slot lt. absurd (omega (arith, lt));
  due = λ slot i. absurd cc;
  lower = λ k lt. absurd (omega (arith, lt));
}

pub whole_new : (vars n : ℕ) (find : ℕ → Option ℕ) → 2 * vars + 3 < 2 ^ 64 → n ≡ 2 * vars + 3 → ((id : ℕ) → find id ≡ None) → IsWhole (record { vars = vars; level = 0; made = [] }) [] (record { spots = []; nexts = []; heads = zeros n; spare = 0; room = 0 }) 0 None [] find
whole_new vars n find small q none = record {
  tabled = tabled_new vars n small q;
  index = record {
    found = λ id slot e. (let f = none id in absurd cc);
    kept = λ id slot lt e. absurd (omega (arith, lt));
  };
  says = tt;
}
