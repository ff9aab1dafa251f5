use Rattle.std.proofs.Common.{◌≡◌, ◌≤◌, ◌-◌, ◌*◌, ◌^◌, ◌%◌, ◌+◌, ℕ, ap, ◌∙◌, arith}
use Rattle.std.proofs.Math.Nat.{pow-le-pow_right}
use Rattle.std.proofs.lemmas.Nat.{one_shl, pow-add}
use Rattle.kn_tables.proofs.Places.{with-below}
use Rattle.kn_tables.proofs.quantify.join_partners.Goals as goal

counted : (n : ℕ) → n ≤ 6 → (1 * 2 ^ n % 2 ^ 64 ≡ 2 ^ n) × (2 ^ n ≤ 64)
counted n most = (one_shl n 64 (omega arith), pow-le-pow_right {n = 2} (omega arith) {i = n} {j = 6} most)

fours : (n : ℕ) → 2 ≤ n → 2 ^ n ≡ 4 * 2 ^ (n - 2)
fours n more = ap (λ m. 2 ^ m) {x = n} {y = 2 + (n - 2)} (omega arith) ∙ pow-add 2 2 (n - 2)

pub partner_words-requires-clause-most : goal.partner_words-requires-clause-most
partner_words-requires-clause-most c = omega (arith, counted c.args.n c.requires.n)

pub partner_words-requires-clause-before : goal.partner_words-requires-clause-before
partner_words-requires-clause-before c k value h =
    omega (arith, c.requires.before, with-below k c.args.var c.args.n value (omega (arith, h, counted c.args.n c.requires.n)) c.requires.var)

pub partner_blocks-requires-clause-most : goal.partner_blocks-requires-clause-most
partner_blocks-requires-clause-most c = omega (arith, counted c.args.n c.requires.n)

pub partner_blocks-requires-clause-before : goal.partner_blocks-requires-clause-before
partner_blocks-requires-clause-before c k value h =
    omega (arith, c.requires.before, with-below k c.args.var c.args.n value (omega (arith, h, counted c.args.n c.requires.n)) c.requires.var)

pub returns-else-var-lt2 : goal.returns-else-var-lt2
returns-else-var-lt2 c k h =
    c.partner_blocks.ensures k (omega (arith, h, counted c.args.n c.requires.n, fours c.args.n (omega (arith, c.if-var-lt2.false, c.requires.var))))
