use Rattle.std.proofs.Common.{◌≡◌, ◌≤◌, ◌∙◌, ℕ, length, false, filter, ap, sym, subst, arith}
use Rattle.std.specs.List.{AllByRecursion}
use Rattle.kn_logic.specs.Groups.{is_among}
use Rattle.kn_store.specs.Stores.{constraints_of}
use Rattle.kn_guess.specs.Guesses.{in_klause, touches, IsBorder}
use Rattle.kn_guess.specs.Refusals.{IsBorderRefused}
use Rattle.kn_guess.proofs.Seeded.{all-same, least-same, refused-border, guess-is}
use Rattle.kn_guess.proofs.seeds.bordered.Goals as goal

pub border-requires-clause-known : goal.border-requires-clause-known
border-requires-clause-known c =
    let s = c.args.store.now in
    let P : ℕ → Type 0 = λ x. (1 ≤ x) × (x ≤ s.vars) in
    let known = c.requires.set.known in
    subst (AllByRecursion P) (sym c.deref.ensures.value)
    (all-same P c.args.set.now c.ascending-aux.result.items (λ x. c.ascending-aux.ensures.same x ∙ ap (λ z. is_among z x) (c.in_ok-from_slice.ensures.items ∙ c.vars.ensures)) known)

pub border-requires-clause-alone : goal.border-requires-clause-alone
border-requires-clause-alone c =
    let s = c.args.store.now in
    let P : ℕ → Type 0 = λ x. in_klause (constraints_of s.live) x ≡ false in
    let alone = c.requires.set.alone in
    subst (AllByRecursion P) (sym c.deref.ensures.value)
    (all-same P c.args.set.now c.ascending-aux.result.items (λ x. c.ascending-aux.ensures.same x ∙ ap (λ z. is_among z x) (c.in_ok-from_slice.ensures.items ∙ c.vars.ensures)) alone)

pub taken-requires-clause-known : goal.taken-requires-clause-known
taken-requires-clause-known c =
    let s = c.args.store.now in
    let P : ℕ → Type 0 = λ x. (1 ≤ x) × (x ≤ s.vars) in
    let known = c.requires.set.known in
    all-same P c.args.set.now c.ascending-aux.result.items (λ x. c.ascending-aux.ensures.same x ∙ ap (λ z. is_among z x) (c.in_ok-from_slice.ensures.items ∙ c.vars.ensures)) known

pub taken-requires-clause-alone : goal.taken-requires-clause-alone
taken-requires-clause-alone c =
    let s = c.args.store.now in
    let P : ℕ → Type 0 = λ x. in_klause (constraints_of s.live) x ≡ false in
    let alone = c.requires.set.alone in
    all-same P c.args.set.now c.ascending-aux.result.items (λ x. c.ascending-aux.ensures.same x ∙ ap (λ z. is_among z x) (c.in_ok-from_slice.ensures.items ∙ c.vars.ensures)) alone

pub returns-in_ok-taken-in-Ok-clause-guess : goal.returns-in_ok-taken-in-Ok-clause-guess
returns-in_ok-taken-in-Ok-clause-guess c =
    let s = c.args.store.now in
    let cs = constraints_of s.live in
    let aux = c.ascending-aux.result.items in
    let numbers = c.in_ok-from_slice.ensures.items ∙ c.vars.ensures in
    let least = c.requires.set.least in
    let few = c.requires.set.few in
    let short = c.ascending-aux.ensures.short in
    let n = ap length numbers in
    let edge = subst (λ z. IsBorder (filter (touches z) cs) z c.in-Ok.border.items) c.deref.ensures.value c.in-Ok.ensures.ok.0 in
    guess-is s c.args.seed aux c.in-Ok.border.items c.in_ok-taken-in-Ok.field-0.group c.in_ok-taken-in-Ok.field-0.ids c.requires.seed c.ascending-aux.ensures.ascending
    (least-same cs c.args.seed c.args.set.now aux (λ x. c.ascending-aux.ensures.same x ∙ ap (λ z. is_among z x) numbers) least) (omega (arith, short, n, few))
    edge c.in-Ok.ensures.ok.1 c.in-Ok.ensures.ok.2 c.in_ok-taken-in-Ok.ensures.aux c.in_ok-taken-in-Ok.ensures.border c.in_ok-taken-in-Ok.ensures.taken c.in_ok-taken-in-Ok.ensures.ids

pub returns-in-Err-clause-refused : goal.returns-in-Err-clause-refused
returns-in-Err-clause-refused c =
    let s = c.args.store.now in
    let cs = constraints_of s.live in
    let aux = c.ascending-aux.result.items in
    let numbers = c.in_ok-from_slice.ensures.items ∙ c.vars.ensures in
    let least = c.requires.set.least in
    let few = c.requires.set.few in
    let short = c.ascending-aux.ensures.short in
    let n = ap length numbers in
    refused-border cs c.args.seed aux c.in-Err.why c.requires.seed
    (least-same cs c.args.seed c.args.set.now aux (λ x. c.ascending-aux.ensures.same x ∙ ap (λ z. is_among z x) numbers) least) (omega (arith, short, n, few))
    (subst (λ z. IsBorderRefused (filter (touches z) cs) z c.in-Err.why) c.deref.ensures.value c.in-Err.ensures.err)
