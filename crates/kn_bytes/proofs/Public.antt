-- For callers: what two calls did, one after the other, and what a source gave that tells its bytes.
use Rattle.std.proofs.Common.{◌≡◌, ℕ, ◌+◌, ◌≤◌, List, [], ◌++◌, length, take, drop, Option, None, Some, Ok, Vec, Global, refl, ap, sym, ◌∙◌, append_assoc, length-append, arith}
use Rattle.std.proofs.lemmas.List.{append-nil, length-take-le}
use Rattle.std.proofs.Math.Seq.{take-add}
use Rattle.kn_bytes.specs.Outside.{RoseBy, Gave, Got, GotPrefix, HasEnded}
use Rattle.kn_bytes.specs.ReadAll.{Took}

pub RoseBy-add : (a b c n m : ℕ) → RoseBy a b n → RoseBy b c m → RoseBy a c (n + m)
RoseBy-add a b c n m first next = (omega arith, λ below. omega arith)

pub Gave-append : (a b c : Option (List ℕ)) (xs ys : List ℕ) → Gave a b xs → Gave b c ys → Gave a c (xs ++ ys)
Gave-append None b c xs ys first next = rw first at next
Gave-append (Some old) None c xs ys first next = absurd first
Gave-append (Some old) (Some mid) None xs ys first next = absurd next
Gave-append (Some old) (Some mid) (Some new) xs ys first next = first ∙ ap (λ (rest : List ℕ). xs ++ rest) next ∙ sym (append_assoc xs ys new)

pub Got-append : (a b c : Option (List ℕ)) (xs ys : List ℕ) → Got a b xs → Got b c ys → Got a c (xs ++ ys)
Got-append None b c xs ys first next = rw first at next
Got-append (Some old) None c xs ys first next = absurd first
Got-append (Some old) (Some mid) None xs ys first next = absurd next
Got-append (Some old) (Some mid) (Some new) xs ys first next = next ∙ ap (λ (front : List ℕ). front ++ ys) first ∙ append_assoc old xs ys

-- a sink that got the first n bytes of a text, and then m bytes of the rest
pub Got-take : (a b c : Option (List ℕ)) (n m : ℕ) (bytes rest : List ℕ) → rest ≡ drop n bytes → Got a b (take n bytes) → Got b c (take m rest) → Got a c (take (n + m) bytes)
Got-take a b c n m bytes rest is first next = rw (take-add n m bytes, ← is) (Got-append a b c (take n bytes) (take m rest) first next)

-- a source that gave some bytes, and then the first n of a piece
pub RoseBy-take : (a b c n : ℕ) (bytes piece : List ℕ) → n ≤ length piece → RoseBy a b (length bytes) → RoseBy b c n → RoseBy a c (length (bytes ++ take n piece))
RoseBy-take a b c n bytes piece within first next =
    simp (length-append, length-take-le n piece within) (RoseBy-add a b c (length bytes) n first next)

-- a source that told all it had left, and was read to the end, gave just that
pub Gave-all : (old bytes : List ℕ) (new : Option (List ℕ)) → Gave (Some old) new bytes → HasEnded new → bytes ≡ old
Gave-all old bytes None gave ended = absurd gave
Gave-all old bytes (Some rest) gave ended = sym (gave ∙ ap (λ (more : List ℕ). bytes ++ more) ended ∙ append-nil bytes)

-- what `read_all` answers where the source tells what it has left: all of it
pub Took-all : {S : Type 0} {left : S → Option (List ℕ)} {given : S → ℕ} {old new : S} {limit : ℕ} {all : Vec ℕ Global} → Took left given old new limit (Ok all) → (bytes : List ℕ) → left old ≡ Some bytes → all.items ≡ bytes
Took-all {S} {left} {given} {old} {new} took bytes tells =
    let gave : Gave (Some bytes) (left new) took.bytes = rw tells at took.gave in
    took.answer.0 ∙ Gave-all bytes took.bytes (left new) gave took.answer.2

-- a source that told that nothing was left gave nothing
pub Gave-ended : (new : Option (List ℕ)) (n : ℕ) (piece : List ℕ) → n ≤ length piece → Gave (Some []) new (take n piece) → n ≡ 0
Gave-ended None n piece within gave = absurd gave
Gave-ended (Some rest) n piece within gave = omega (arith, ap length gave, length-append (take n piece) rest, length-take-le n piece within)

-- a sink that got nothing is as before
pub Got-nil : (a : Option (List ℕ)) → Got a a []
Got-nil None = refl
Got-nil (Some old) = sym (append-nil old)

-- a sink that got all of a text got some of the first of it, whatever stands behind
pub GotPrefix-from_Got : (a b : Option (List ℕ)) (xs more : List ℕ) → Got a b xs → GotPrefix a b (xs ++ more)
GotPrefix-from_Got a b xs more got = (xs, more, refl, got)

-- a prefix of a text is a prefix of a longer one
pub GotPrefix-longer : (a b : Option (List ℕ)) (xs more : List ℕ) → GotPrefix a b xs → GotPrefix a b (xs ++ more)
GotPrefix-longer a b xs more (front, rest, is, got) = (front, rest ++ more, rw (is, append_assoc) refl, got)

-- all of one text, and then a prefix of the next
pub GotPrefix-append : (a b c : Option (List ℕ)) (xs ys : List ℕ) → Got a b xs → GotPrefix b c ys → GotPrefix a c (xs ++ ys)
GotPrefix-append a b c xs ys first (front, rest, is, next) =
    (xs ++ front, rest, rw is (sym (append_assoc xs front rest)), Got-append a b c xs front first next)
