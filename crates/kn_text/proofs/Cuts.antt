-- Cutting a line off the front of a text, and a word off the front of a line.
use Rattle.std.proofs.Common.{◌≡◌, ℕ, ◌<◌, ◌≤◌, ◌==◌, Bool, true, false, not, List, [], ◌∷◌, ◌++◌, length, take, drop, get_or, refl, sym, ap, subst, ◌∙◌, append_assoc, arith}
use Rattle.std.proofs.Math.Numerals.{one-add}
use Rattle.std.proofs.lemmas.List.{append-nil, nil_from_length}
use Rattle.std.proofs.lemmas.List.Sums.{prefix_len_is}
use Rattle.std.specs.List.{prefix_len}
use Rattle.kn_text.specs.Lines.{HasNoFeed, is_blank, onto, lines_of, ended, words_behind, words_of}

-- whether a byte stands within a line
abbrev pub is_within : ℕ → Bool
is_within b = not (b == 10)

-- whether a byte stands within a word
abbrev pub is_filled : ℕ → Bool
is_filled b = not (is_blank b)

abbrev pub line_end : List ℕ → ℕ
line_end text = prefix_len is_within text

abbrev pub word_end : List ℕ → ℕ
word_end line = prefix_len is_filled line

-- what stands behind the blank bytes at the front of a line
abbrev pub front_of : List ℕ → List ℕ
front_of line = drop (prefix_len is_blank line) line

abbrev pub LineCut : List ℕ → Type 0
LineCut text = lines_of text ≡ take (line_end text) text ∷ lines_of (drop 1 (drop (line_end text) text))

line_cut-feed : (bytes : List ℕ) (b : ℕ) → (b == 10) ≡ true → LineCut (b ∷ bytes)
line_cut-feed bytes b e = rw e refl

line_cut-last : (b : ℕ) → (b == 10) ≡ false → LineCut (b ∷ [])
line_cut-last b e = rw e refl

line_cut-more : (bytes : List ℕ) (b c : ℕ) → (b == 10) ≡ false → LineCut (c ∷ bytes) → LineCut (b ∷ c ∷ bytes)
line_cut-more bytes b c e more = rw e (rw one-add (ap (onto b) more))

line_cut-at : (bytes : List ℕ) (b : ℕ) (t : Bool) → (b == 10) ≡ t → ((c : ℕ) (cs : List ℕ) → bytes ≡ c ∷ cs → LineCut bytes) → LineCut (b ∷ bytes)
line_cut-at bytes b true e more = line_cut-feed bytes b e
line_cut-at [] b false e more = line_cut-last b e
line_cut-at (c ∷ cs) b false e more = line_cut-more cs b c e (more c cs refl)

-- the first line of a text that is not empty, and what stands behind its line feed
line_cut-cons : (bytes : List ℕ) (b : ℕ) → LineCut (b ∷ bytes)
line_cut-cons [] b = line_cut-at [] b (b == 10) refl (λ c cs e. absurd cc)
line_cut-cons (c ∷ cs) b = line_cut-at (c ∷ cs) b (b == 10) refl (λ _ _ _. line_cut-cons cs c)

pub line_cut : (text : List ℕ) → 0 < length text → LineCut text
line_cut [] filled = absurd (omega (arith, filled))
line_cut (b ∷ bytes) filled = line_cut-cons bytes b

line_has_no_feed-at : (bytes : List ℕ) (b : ℕ) (t : Bool) → (b == 10) ≡ t → HasNoFeed (take (line_end bytes) bytes) → HasNoFeed (take (line_end (b ∷ bytes)) (b ∷ bytes))
line_has_no_feed-at bytes b true e more = rw e tt
line_has_no_feed-at bytes b false e more = rw e (rw one-add (e, more))

pub line_has_no_feed : (text : List ℕ) → HasNoFeed (take (line_end text) text)
line_has_no_feed [] = tt
line_has_no_feed (b ∷ bytes) = line_has_no_feed-at bytes b (b == 10) refl (line_has_no_feed bytes)

words_of_front-at : (bytes : List ℕ) (b : ℕ) (t : Bool) → is_blank b ≡ t → words_of (front_of bytes) ≡ words_of bytes → words_of (front_of (b ∷ bytes)) ≡ words_of (b ∷ bytes)
words_of_front-at bytes b true e more = rw e (rw one-add more)
words_of_front-at bytes b false e more = rw e (rw e refl)

-- blank bytes at the front change no word
pub words_of_front : (line : List ℕ) → words_of (front_of line) ≡ words_of line
words_of_front [] = refl
words_of_front (b ∷ bytes) = words_of_front-at bytes b (is_blank b) refl (words_of_front bytes)

abbrev WordCut : List ℕ → List ℕ → Type 0
WordCut line word = words_behind word line ≡ ended (word ++ take (word_end line) line) (words_of (drop (word_end line) line))

word_cut-at : (bytes word : List ℕ) (b : ℕ) (t : Bool) → is_blank b ≡ t → WordCut bytes (word ++ b ∷ []) → WordCut (b ∷ bytes) word
word_cut-at bytes word b true e more = rw e (rw e (rw append-nil refl))
word_cut-at bytes word b false e more = rw e (rw one-add (more ∙ ap (λ w. ended w (words_of (drop (word_end bytes) bytes))) (append_assoc word (b ∷ []) (take (word_end bytes) bytes))))

-- the word that goes on at the front of a line, and what stands behind it
word_cut : (line word : List ℕ) → WordCut line word
word_cut [] word = rw append-nil refl
word_cut (b ∷ bytes) word = word_cut-at bytes word b (is_blank b) refl (word_cut bytes (word ++ b ∷ []))

front_is_filled-at : (bytes : List ℕ) (b : ℕ) (t : Bool) → is_blank b ≡ t → (0 < length (front_of bytes) → 0 < word_end (front_of bytes)) → 0 < length (front_of (b ∷ bytes)) → 0 < word_end (front_of (b ∷ bytes))
front_is_filled-at bytes b true e more = rw e (rw one-add more)
front_is_filled-at bytes b false e more = rw e (rw e (λ _. omega arith))

-- behind the blank bytes a word begins
pub front_is_filled : (line : List ℕ) → 0 < length (front_of line) → 0 < word_end (front_of line)
front_is_filled [] h = h
front_is_filled (b ∷ bytes) h = front_is_filled-at bytes b (is_blank b) refl (front_is_filled bytes) h

pub ended-filled : (word : List ℕ) (words : List (List ℕ)) → 0 < length word → ended word words ≡ word ∷ words
ended-filled [] words h = absurd (omega (arith, h))
ended-filled (b ∷ word) words h = refl

pub first_word_is : (line front word rest : List ℕ) (m n : ℕ) → m ≡ prefix_len is_blank line → front ≡ drop m line → n ≡ word_end front → word ≡ take n front → rest ≡ drop n front → 0 < length word → words_of line ≡ word ∷ words_of rest
first_word_is line front word rest m n m-is front-is n-is word-is rest-is filled =
    sym (words_of_front line)
    ∙ ap words_of (sym (front-is ∙ ap (λ k. drop k line) m-is))
    ∙ word_cut front []
    ∙ ap (λ k. ended (take k front) (words_of (drop k front))) (sym n-is)
    ∙ ap (λ w. ended w (words_of (drop n front))) (sym word-is)
    ∙ ap (λ r. ended word (words_of r)) (sym rest-is)
    ∙ ended-filled word (words_of rest) filled

pub first_word_is_filled : (line front : List ℕ) (m n : ℕ) → m ≡ prefix_len is_blank line → front ≡ drop m line → n ≡ word_end front → 0 < length front → 0 < n
first_word_is_filled line front m n m-is front-is n-is filled = let e : front ≡ front_of line = front-is ∙ ap (λ k. drop k line) m-is in rw n-is (rw e (front_is_filled line (subst (λ f. 0 < length f) e filled)))

pub no_word : (line front : List ℕ) (m : ℕ) → m ≡ prefix_len is_blank line → front ≡ drop m line → length front ≡ 0 → words_of line ≡ []
no_word line [] m m-is front-is empty = sym (words_of_front line) ∙ ap words_of (sym (front-is ∙ ap (λ k. drop k line) m-is))
no_word line (b ∷ bytes) m m-is front-is empty = absurd (omega (arith, empty))

pub first_line_is : (text line behind rest : List ℕ) (n : ℕ) → 0 < length text → n ≡ line_end text → line ≡ take n text → behind ≡ drop n text → rest ≡ drop 1 behind → lines_of text ≡ line ∷ lines_of rest
first_line_is text line behind rest n filled n-is line-is behind-is rest-is =
    line_cut text filled ∙ (rw line-is (rw rest-is (rw behind-is (rw n-is refl))))

pub last_line_is : (text line behind : List ℕ) (n : ℕ) → 0 < length text → n ≡ line_end text → line ≡ take n text → behind ≡ drop n text → length behind ≡ 0 → lines_of text ≡ line ∷ lines_of behind
last_line_is text line behind n filled n-is line-is behind-is empty =
    first_line_is text line behind behind n filled n-is line-is behind-is (let e : behind ≡ [] = nil_from_length behind empty in rw e refl)

pub first_line_has_no_feed : (text line : List ℕ) (n : ℕ) → n ≡ line_end text → line ≡ take n text → HasNoFeed line
first_line_has_no_feed text line n n-is line-is = rw line-is (rw n-is (line_has_no_feed text))

abbrev pub NoFeedBefore : List ℕ → ℕ → Type 0
NoFeedBefore text n = (k : ℕ) → 0 ≤ k → k < n → (get_or text k 0 == 10) ≡ true → ⊥

is_false : (t : Bool) → (t ≡ true → ⊥) → not t ≡ true
is_false true h = absurd (h refl)
is_false false h = refl

-- the first line feed ends the first line
pub line_end_is : (text : List ℕ) (n : ℕ) → n < length text → NoFeedBefore text n → (get_or text n 0 == 10) ≡ true → n ≡ line_end text
line_end_is text n low before here =
    sym (prefix_len_is is_within text n 0 (omega arith) (λ k below. is_false _ (before k (omega arith) below)) (λ _. ap not here))

pub line_end_is_all : (text : List ℕ) → NoFeedBefore text (length text) → length text ≡ line_end text
line_end_is_all text before =
    sym (prefix_len_is is_within text (length text) 0 (omega arith) (λ k below. is_false _ (before k (omega arith) below)) (λ h. absurd (omega (arith, h))))
