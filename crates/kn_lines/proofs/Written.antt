-- A line that is written is read again, and what is read can be written.
use Rattle.std.proofs.Common.{◌≤◌, ◌<◌, ◌^◌, ℕ, List, [], ◌∷◌, ◌++◌, map, codes, decimal, refl, sym, subst, lit<}
use Rattle.std.specs.List.{join_with_byte}
use Rattle.kn_logic.specs.Literals.{Literal}
use Rattle.kn_logic.specs.Constraints.{Bounded}
use Rattle.kn_text.specs.Lines.{StandsInWord, IsPlain, IsPlainLine, IsContent}
use Rattle.kn_text.specs.Numbers.{literal_word}
use Rattle.kn_text.specs.Lists.{LiteralsThen}
use Rattle.kn_text.proofs.Public.{number_of_decimal, decimal_is_plain, literal_of_word, literal_word_is_plain, number_of_below, literal_of_writable, words_of_joined}
use Rattle.kn_lines.specs.declared.line.Arm.{Arm}
use Rattle.kn_lines.specs.declared.line.Arm.TheVariants.{True, False, Lit}
use Rattle.kn_lines.specs.declared.line.Line.{Line}
use Rattle.kn_lines.specs.declared.line.Line.TheVariants.{Header, Define, Lemma, Learned, Klause, Unfold, Delete}
use Rattle.kn_lines.specs.Lines.{SpellIds, SpellsHeader, SpellsArm, SpellsDefinition, SpellPair, SpellsKlause, SpellsWords, SpellsLine, AreIds, AreNumbers, AreLiterals, IsArmInRange, IsWellFormed, IsInRange, ended_by_zero, arm_word, line_words}
use Rattle.kn_lines.proofs.Spelling.{Behind, ThenIds}

-- the words of a line spell it

written_ids : (ids : List ℕ) → AreIds ids → AreNumbers ids → SpellIds (ended_by_zero (map decimal ids)) ids
written_ids [] ones range = (refl, refl)
written_ids (id ∷ ids) ones range = (number_of_decimal id range.0, ones.0, written_ids ids ones.1 range.1)

written_literals : (behind : Behind) (words : List (List ℕ)) (lits : List Literal) → AreLiterals lits → behind words → LiteralsThen behind (ended_by_zero (map literal_word lits) ++ words) lits
written_literals behind words [] range h = (refl, h)
written_literals behind words (l ∷ lits) range h = (literal_of_word l range.0, written_literals behind words lits range.1 h)

written_derived : (lits : List Literal) (hints : List ℕ) → AreLiterals lits → AreIds hints → AreNumbers hints → ThenIds (ended_by_zero (map literal_word lits) ++ ended_by_zero (map decimal hints)) lits hints
written_derived lits hints range ones numbers = written_literals (λ behind. SpellIds behind hints) (ended_by_zero (map decimal hints)) lits range (written_ids hints ones numbers)

written_arm : (arm : Arm) → IsArmInRange arm → SpellsArm (arm_word arm) arm
written_arm True range = refl
written_arm False range = refl
written_arm (Lit l) range = literal_of_word l range

written_pair : (a b : ℕ) → 1 ≤ a → 1 ≤ b → a < 2 ^ 64 → b < 2 ^ 64 → SpellPair (decimal a ∷ decimal b ∷ []) a b
written_pair a b one_a one_b range_a range_b = (number_of_decimal a range_a, one_a, number_of_decimal b range_b, one_b)

pub written_words_spell : (line : Line) → IsWellFormed line → IsInRange line → SpellsWords (line_words line) line
written_words_spell (Header vars constraints) formed range = (refl, (refl, number_of_decimal vars range.0, number_of_decimal constraints range.1))
written_words_spell (Define x high low) formed range = (refl, (literal_of_word x range.0, written_arm high range.1, written_arm low range.2))
written_words_spell (Lemma c hints) formed range = (refl, formed.0, written_derived c.lits hints range.0 formed.1 range.1)
written_words_spell (Learned c hints) formed range = (refl, formed.0, written_derived c.lits hints range.0 formed.1 range.1)
written_words_spell (Klause c root unit) formed range =
    let behind : SpellPair (decimal root ∷ decimal unit ∷ []) root unit = written_pair root unit formed.1 formed.2 range.2 range.3 in
    (refl, formed.0, (number_of_decimal c.bound range.0, written_literals (λ b. SpellPair b root unit) (decimal root ∷ decimal unit ∷ []) c.lits range.1 behind))
written_words_spell (Unfold id root) formed range = (refl, written_pair id root formed.0 formed.1 range.0 range.1)
written_words_spell (Delete ids) formed range = (refl, written_ids ids formed range)

-- each word of a line can stand in a text

plain_append : (front behind : List (List ℕ)) → IsPlainLine front → IsPlainLine behind → IsPlainLine (front ++ behind)
plain_append [] behind f b = b
plain_append (word ∷ front) behind f b = (f.0, plain_append front behind f.1 b)

byte_is_plain : (b : ℕ) → StandsInWord b → IsPlain (b ∷ [])
byte_is_plain b h = (lit< tt, (h, tt))

zero_is_plain : IsPlain (codes "0")
zero_is_plain = byte_is_plain 48 (refl, refl)

format_is_plain : IsPlain (codes "kpf")
format_is_plain = (lit< tt, ((refl, refl), ((refl, refl), ((refl, refl), tt))))

ids_are_plain : (ids : List ℕ) → AreNumbers ids → IsPlainLine (ended_by_zero (map decimal ids))
ids_are_plain [] range = (zero_is_plain, tt)
ids_are_plain (id ∷ ids) range = (decimal_is_plain id range.0, ids_are_plain ids range.1)

literals_are_plain : (lits : List Literal) → AreLiterals lits → IsPlainLine (ended_by_zero (map literal_word lits))
literals_are_plain [] range = (zero_is_plain, tt)
literals_are_plain (l ∷ lits) range = (literal_word_is_plain l range.0.1, literals_are_plain lits range.1)

arm_is_plain : (arm : Arm) → IsArmInRange arm → IsPlain (arm_word arm)
arm_is_plain True range = byte_is_plain 84 (refl, refl)
arm_is_plain False range = byte_is_plain 70 (refl, refl)
arm_is_plain (Lit l) range = literal_word_is_plain l range.1

pair_is_plain : (a b : ℕ) → a < 2 ^ 64 → b < 2 ^ 64 → IsPlainLine (decimal a ∷ decimal b ∷ [])
pair_is_plain a b range_a range_b = (decimal_is_plain a range_a, (decimal_is_plain b range_b, tt))

derived_is_plain : (lits : List Literal) (hints : List ℕ) → AreLiterals lits → AreNumbers hints → IsPlainLine (ended_by_zero (map literal_word lits) ++ ended_by_zero (map decimal hints))
derived_is_plain lits hints ls ids = plain_append (ended_by_zero (map literal_word lits)) (ended_by_zero (map decimal hints)) (literals_are_plain lits ls) (ids_are_plain hints ids)

pub written_is_plain : (line : Line) → IsInRange line → IsPlainLine (line_words line)
written_is_plain (Header vars constraints) range = (byte_is_plain 112 (refl, refl), (format_is_plain, pair_is_plain vars constraints range.0 range.1))
written_is_plain (Define x high low) range = (byte_is_plain 100 (refl, refl), (literal_word_is_plain x range.0.1, (arm_is_plain high range.1, (arm_is_plain low range.2, tt))))
written_is_plain (Lemma c hints) range = (byte_is_plain 114 (refl, refl), derived_is_plain c.lits hints range.0 range.1)
written_is_plain (Learned c hints) range = (byte_is_plain 108 (refl, refl), derived_is_plain c.lits hints range.0 range.1)
written_is_plain (Klause c root unit) range =
    let behind : IsPlainLine (decimal root ∷ decimal unit ∷ []) = pair_is_plain root unit range.2 range.3 in
    (byte_is_plain 107 (refl, refl), (decimal_is_plain c.bound range.0, plain_append (ended_by_zero (map literal_word c.lits)) (decimal root ∷ decimal unit ∷ []) (literals_are_plain c.lits range.1) behind))
written_is_plain (Unfold id root) range = (byte_is_plain 103 (refl, refl), pair_is_plain id root range.0 range.1)
written_is_plain (Delete ids) range = (byte_is_plain 120 (refl, refl), ids_are_plain ids range)

pub written_is_content : (line : Line) → IsContent (line_words line)
written_is_content (Header vars constraints) = refl
written_is_content (Define x high low) = refl
written_is_content (Lemma c hints) = refl
written_is_content (Learned c hints) = refl
written_is_content (Klause c root unit) = refl
written_is_content (Unfold id root) = refl
written_is_content (Delete ids) = refl

-- a line is read as it was written
pub written_line_is_read : (line : Line) → IsWellFormed line → IsInRange line → SpellsLine (join_with_byte 32 (line_words line)) line
written_line_is_read line formed range = subst (λ words. SpellsWords words line) (sym (words_of_joined (line_words line) (written_is_plain line range))) (written_words_spell line formed range)

-- a line that is read is one that can be written

spelled_ids_in_range : (words : List (List ℕ)) (ids : List ℕ) → SpellIds words ids → AreNumbers ids
spelled_ids_in_range [] ids h = absurd h
spelled_ids_in_range (word ∷ words) [] h = tt
spelled_ids_in_range (word ∷ words) (id ∷ ids) h = (number_of_below word id h.0, spelled_ids_in_range words ids h.2)

then_in_range : (words : List (List ℕ)) (lits : List Literal) (hints : List ℕ) → ThenIds words lits hints → AreLiterals lits × AreNumbers hints
then_in_range [] lits hints h = absurd h
then_in_range (word ∷ words) [] hints h = (tt, spelled_ids_in_range words hints h.1)
then_in_range (word ∷ words) (l ∷ lits) hints h = let more : AreLiterals lits × AreNumbers hints = then_in_range words lits hints h.1 in ((literal_of_writable word l h.0, more.0), more.1)

header_in_range : (words : List (List ℕ)) (vars constraints : ℕ) → SpellsHeader words vars constraints → (vars < 2 ^ 64) × (constraints < 2 ^ 64)
header_in_range [] vars constraints h = absurd h
header_in_range (format ∷ []) vars constraints h = absurd h
header_in_range (format ∷ first ∷ []) vars constraints h = absurd h
header_in_range (format ∷ first ∷ second ∷ []) vars constraints h = (number_of_below first vars h.1, number_of_below second constraints h.2)
header_in_range (format ∷ first ∷ second ∷ _ ∷ _) vars constraints h = absurd h

arm_in_range : (word : List ℕ) (arm : Arm) → SpellsArm word arm → IsArmInRange arm
arm_in_range word True h = tt
arm_in_range word False h = tt
arm_in_range word (Lit l) h = literal_of_writable word l h

definition_in_range : (words : List (List ℕ)) (x : Literal) (high low : Arm) → SpellsDefinition words x high low → IsInRange (Define x high low)
definition_in_range [] x high low h = absurd h
definition_in_range (test ∷ []) x high low h = absurd h
definition_in_range (test ∷ first ∷ []) x high low h = absurd h
definition_in_range (test ∷ first ∷ second ∷ []) x high low h = (literal_of_writable test x h.0, arm_in_range first high h.1, arm_in_range second low h.2)
definition_in_range (test ∷ first ∷ second ∷ _ ∷ _) x high low h = absurd h

pair_in_range : (words : List (List ℕ)) (a b : ℕ) → SpellPair words a b → (a < 2 ^ 64) × (b < 2 ^ 64)
pair_in_range [] a b h = absurd h
pair_in_range (first ∷ []) a b h = absurd h
pair_in_range (first ∷ second ∷ []) a b h = (number_of_below first a h.0, number_of_below second b h.2)
pair_in_range (first ∷ second ∷ _ ∷ _) a b h = absurd h

then_pair_in_range : (words : List (List ℕ)) (lits : List Literal) (a b : ℕ) → LiteralsThen (λ behind. SpellPair behind a b) words lits → AreLiterals lits × (a < 2 ^ 64) × (b < 2 ^ 64)
then_pair_in_range [] lits a b h = absurd h
then_pair_in_range (word ∷ words) [] a b h = let pair : (a < 2 ^ 64) × (b < 2 ^ 64) = pair_in_range words a b h.1 in (tt, pair.0, pair.1)
then_pair_in_range (word ∷ words) (l ∷ lits) a b h =
    let more : AreLiterals lits × (a < 2 ^ 64) × (b < 2 ^ 64) = then_pair_in_range words lits a b h.1 in
    ((literal_of_writable word l h.0, more.0), more.1, more.2)

klause_in_range : (words : List (List ℕ)) (c : Bounded) (root unit : ℕ) → SpellsKlause words c.bound c.lits root unit → IsInRange (Klause c root unit)
klause_in_range [] c root unit h = absurd h
klause_in_range (word ∷ words) c root unit h =
    let more : AreLiterals c.lits × (root < 2 ^ 64) × (unit < 2 ^ 64) = then_pair_in_range words c.lits root unit h.1 in
    (number_of_below word c.bound h.0, more.0, more.1, more.2)

pub spelled_is_in_range : (words : List (List ℕ)) (line : Line) → SpellsWords words line → IsInRange line
spelled_is_in_range [] line h = absurd h
spelled_is_in_range (word ∷ words) (Header vars constraints) h = header_in_range words vars constraints h.1
spelled_is_in_range (word ∷ words) (Define x high low) h = definition_in_range words x high low h.1
spelled_is_in_range (word ∷ words) (Lemma c hints) h = then_in_range words c.lits hints h.2
spelled_is_in_range (word ∷ words) (Learned c hints) h = then_in_range words c.lits hints h.2
spelled_is_in_range (word ∷ words) (Klause c root unit) h = klause_in_range words c root unit h.2
spelled_is_in_range (word ∷ words) (Unfold id root) h = pair_in_range words id root h.1
spelled_is_in_range (word ∷ words) (Delete ids) h = spelled_ids_in_range words ids h.1
