-- What is read of lines that were written.
use Rattle.std.proofs.Common.{◌≡◌, ℕ, ◌+◌, ◌==◌, Bool, true, false, List, [], ◌∷◌, ◌++◌, map, refl, sym, ap, ◌∙◌, append_assoc, arith}
use Rattle.std.proofs.lemmas.List.{append-nil}
use Rattle.std.specs.List.{AllByRecursion, flat_map, join_with_byte}
use Rattle.kn_text.specs.Lines.{HasNoFeed, is_blank, onto, lines_of, Line, content_from, content_of, unless_skipped, numbered, IsContent, ended, words_behind, words_of, line_text, StandsInWord, IsPlain, IsPlainLine}
use Rattle.kn_text.proofs.Cuts.{ended-filled}

-- bytes that may stand in a word go on with it
words_behind_plain : (bytes rest word : List ℕ) → AllByRecursion StandsInWord bytes → words_behind word (bytes ++ rest) ≡ words_behind (word ++ bytes) rest
words_behind_plain [] rest word plain = rw append-nil refl
words_behind_plain (b ∷ bytes) rest word plain = let e : is_blank b ≡ false = plain.0.0 in rw e (words_behind_plain bytes rest (word ++ b ∷ []) plain.1 ∙ ap (λ w. words_behind w rest) (append_assoc word (b ∷ []) bytes))

words_of_word : (word : List ℕ) → IsPlain word → words_of word ≡ word ∷ []
words_of_word word plain = ap words_of (sym (append-nil word)) ∙ words_behind_plain word [] [] plain.1 ∙ ended-filled word [] plain.0

words_of_words : (word rest : List ℕ) → IsPlain word → words_of (word ++ 32 ∷ rest) ≡ word ∷ words_of rest
words_of_words word rest plain = words_behind_plain word (32 ∷ rest) [] plain.1 ∙ ended-filled word (words_of rest) plain.0

-- a line of plain words has these words
pub words_of_joined : (words : List (List ℕ)) → IsPlainLine words → words_of (join_with_byte 32 words) ≡ words
words_of_joined [] plain = refl
words_of_joined (word ∷ []) plain = words_of_word word plain.0
words_of_joined (word ∷ next ∷ words) plain = words_of_words word (join_with_byte 32 (next ∷ words)) plain.0 ∙ ap (λ ws. word ∷ ws) (words_of_joined (next ∷ words) plain.1)

no_feed_append : (front behind : List ℕ) → AllByRecursion StandsInWord front → HasNoFeed behind → HasNoFeed (front ++ behind)
no_feed_append [] behind plain more = more
no_feed_append (b ∷ front) behind plain more = (plain.0.1, no_feed_append front behind plain.1 more)

no_feed_word : (word : List ℕ) → AllByRecursion StandsInWord word → HasNoFeed word
no_feed_word [] plain = tt
no_feed_word (b ∷ word) plain = (plain.0.1, no_feed_word word plain.1)

pub joined_has_no_feed : (words : List (List ℕ)) → IsPlainLine words → HasNoFeed (join_with_byte 32 words)
joined_has_no_feed [] plain = tt
joined_has_no_feed (word ∷ []) plain = no_feed_word word plain.0.1
joined_has_no_feed (word ∷ next ∷ words) plain = no_feed_append word (32 ∷ join_with_byte 32 (next ∷ words)) plain.0.1 (refl, joined_has_no_feed (next ∷ words) plain.1)

-- a line feed ends the line before it
pub lines_of_line : (line rest : List ℕ) → HasNoFeed line → lines_of (line ++ 10 ∷ rest) ≡ line ∷ lines_of rest
lines_of_line [] rest within = refl
lines_of_line (b ∷ line) rest within = let e : (b == 10) ≡ false = within.0 in rw e (ap (onto b) (lines_of_line line rest within.1))

pub lines_of_line_text : (words : List (List ℕ)) (rest : List ℕ) → IsPlainLine words → lines_of (line_text words ++ rest) ≡ join_with_byte 32 words ∷ lines_of rest
lines_of_line_text words rest plain =
    ap lines_of (append_assoc (join_with_byte 32 words) (10 ∷ []) rest) ∙ lines_of_line (join_with_byte 32 words) rest (joined_has_no_feed words plain)

pub lines_of_lines : (lines : List (List (List ℕ))) → AllByRecursion IsPlainLine lines → lines_of (flat_map line_text lines) ≡ map (join_with_byte 32) lines
lines_of_lines [] plain = refl
lines_of_lines (words ∷ lines) plain = lines_of_line_text words (flat_map line_text lines) plain.0 ∙ ap (λ ls. join_with_byte 32 words ∷ ls) (lines_of_lines lines plain.1)

words_of_each : (lines : List (List (List ℕ))) → AllByRecursion IsPlainLine lines → map words_of (map (join_with_byte 32) lines) ≡ lines
words_of_each [] plain = refl
words_of_each (words ∷ lines) plain = ap (λ w. w ∷ map words_of (map (join_with_byte 32) lines)) (words_of_joined words plain.0) ∙ ap (λ ls. words ∷ ls) (words_of_each lines plain.1)

-- lines of plain words are read as they were written
pub words_of_lines : (lines : List (List (List ℕ))) → AllByRecursion IsPlainLine lines → map words_of (lines_of (flat_map line_text lines)) ≡ lines
words_of_lines lines plain = ap (map words_of) (lines_of_lines lines plain) ∙ words_of_each lines plain

-- a written line before a text whose lines are numbered behind it
pub content_of_line_text : (number : ℕ) (words : List (List ℕ)) (rest : List ℕ) → IsPlainLine words → content_from number (lines_of (line_text words ++ rest)) ≡ unless_skipped number words (content_from (number + 1) (lines_of rest))
content_of_line_text number words rest plain =
    ap (content_from number) (lines_of_line_text words rest plain)
    ∙ ap (λ ws. unless_skipped number ws (content_from (number + 1) (lines_of rest))) (words_of_joined words plain)

unless_skipped-content : (number : ℕ) (words : List (List ℕ)) (others : List Line) → IsContent words → unless_skipped number words others ≡ record { number = number; words = words } ∷ others
unless_skipped-content number words others content = rw content refl

content_from_lines : (number : ℕ) (lines : List (List (List ℕ))) → AllByRecursion IsPlainLine lines → AllByRecursion IsContent lines → content_from number (lines_of (flat_map line_text lines)) ≡ numbered number lines
content_from_lines number [] plain content = refl
content_from_lines number (words ∷ lines) plain content =
    content_of_line_text number words (flat_map line_text lines) plain.0
    ∙ unless_skipped-content number words _ content.0
    ∙ ap (λ ls. record { number = number; words = words } ∷ ls) (content_from_lines (number + 1) lines plain.1 content.1)

-- written lines are the content of the text that they make
pub content_of_lines : (lines : List (List (List ℕ))) → AllByRecursion IsPlainLine lines → AllByRecursion IsContent lines → content_of (flat_map line_text lines) ≡ numbered 1 lines
content_of_lines lines plain content = content_from_lines 1 lines plain content

onto_has_no_feed : (b : ℕ) (lines : List (List ℕ)) → (b == 10) ≡ false → AllByRecursion HasNoFeed lines → AllByRecursion HasNoFeed (onto b lines)
onto_has_no_feed b [] within all = ((within, tt), tt)
onto_has_no_feed b (line ∷ lines) within all = ((within, all.0), all.1)

lines_have_no_feed-at : (bytes : List ℕ) (b : ℕ) (t : Bool) → (b == 10) ≡ t → AllByRecursion HasNoFeed (lines_of bytes) → AllByRecursion HasNoFeed (lines_of (b ∷ bytes))
lines_have_no_feed-at bytes b true e all = rw e (tt, all)
lines_have_no_feed-at bytes b false e all = rw e (onto_has_no_feed b (lines_of bytes) e all)

-- no line of a text holds a line feed
pub lines_have_no_feed : (text : List ℕ) → AllByRecursion HasNoFeed (lines_of text)
lines_have_no_feed [] = tt
lines_have_no_feed (b ∷ bytes) = lines_have_no_feed-at bytes b (b == 10) refl (lines_have_no_feed bytes)

ended_is_plain : (word : List ℕ) (words : List (List ℕ)) → AllByRecursion StandsInWord word → IsPlainLine words → IsPlainLine (ended word words)
ended_is_plain [] words stands plain = plain
ended_is_plain (b ∷ word) words stands plain = ((omega arith, stands), plain)

stands_more : (word : List ℕ) (b : ℕ) → AllByRecursion StandsInWord word → StandsInWord b → AllByRecursion StandsInWord (word ++ b ∷ [])
stands_more [] b stands last = (last, tt)
stands_more (c ∷ word) b stands last = (stands.0, stands_more word b stands.1 last)

words_are_plain-at : (bytes word : List ℕ) (b : ℕ) (t : Bool) → is_blank b ≡ t → (b == 10) ≡ false → AllByRecursion StandsInWord word → ((w : List ℕ) → AllByRecursion StandsInWord w → IsPlainLine (words_behind w bytes)) → IsPlainLine (words_behind word (b ∷ bytes))
words_are_plain-at bytes word b true e within stands more = rw e (ended_is_plain word (words_behind [] bytes) stands (more [] tt))
words_are_plain-at bytes word b false e within stands more = rw e (more (word ++ b ∷ []) (stands_more word b stands (e, within)))

words_are_plain : (line : List ℕ) → HasNoFeed line → (word : List ℕ) → AllByRecursion StandsInWord word → IsPlainLine (words_behind word line)
words_are_plain [] within word stands = ended_is_plain word [] stands tt
words_are_plain (b ∷ bytes) within word stands = words_are_plain-at bytes word b (is_blank b) refl within.0 stands (words_are_plain bytes within.1)

pub line_is_plain : (line : List ℕ) → HasNoFeed line → IsPlainLine (words_of line)
line_is_plain line within = words_are_plain line within [] tt

lines_are_plain : (lines : List (List ℕ)) → AllByRecursion HasNoFeed lines → AllByRecursion IsPlainLine (map words_of lines)
lines_are_plain [] within = tt
lines_are_plain (line ∷ lines) within = (line_is_plain line within.0, lines_are_plain lines within.1)

-- what is read of a text can be written again
pub text_is_plain : (text : List ℕ) → AllByRecursion IsPlainLine (map words_of (lines_of text))
text_is_plain text = lines_are_plain (lines_of text) (lines_have_no_feed text)
