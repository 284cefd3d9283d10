-- How a word is cut off a line, and where the next line begins.
use Rattle.std.proofs.Common.{◌≡◌, ℕ, suc, ◌+◌, ◌<◌, ◌≤◌, Bool, true, false, eqb, List, [], ◌∷◌, length, take, drop, Some, None, slice_index, ◌==◌, sym, refl, ap, ◌∙◌, subst, inl, inr, add-one, one-add, arith, length-drop}
use Rattle.std.proofs.lemmas.Bool.{cases_Bool}
use Rattle.std.proofs.lemmas.Bool.Decides.{nat_tests}
use Rattle.std.proofs.lemmas.List.Sums.{prefix_len_is, prefix_len-le-length}
use Rattle.std.specs.List.{prefix_len}
use Rattle.memchr.specs.Find.{NoneBefore, Nowhere, Passes, is_byte}
use Rattle.text.specs.Bytes.{in_line, blank, ending, in_word}
use Rattle.text.specs.Lines.{next_line}
use Rattle.text.specs.Words.{words_from, words_of, after_blanks, front_word, after_word}

-- inside a word, the next words are those past it
past : (line : List ℕ) → words_from true line ≡ words_of (after_word line)
past [] = refl
past (b ∷ bs) =
    elim (cases_Bool (blank b)) [
      | inl s ↦ simp s
      | inr s ↦ elim (cases_Bool (ending b)) [ inl t ↦ simp (s, t) | inr t ↦ simp (s, t, one-add) (past bs) ]
    ]

-- blanks hold no word
skipped : (line : List ℕ) → words_of line ≡ words_of (after_blanks line)
skipped [] = refl
skipped (b ∷ bs) = elim (cases_Bool (blank b)) [ inl s ↦ simp (s, one-add) (skipped bs) | inr s ↦ simp s ]

-- past the blanks there is none
bare : (line : List ℕ) → prefix_len blank (after_blanks line) ≡ 0
bare [] = refl
bare (b ∷ bs) = elim (cases_Bool (blank b)) [ inl s ↦ simp (s, one-add) (bare bs) | inr s ↦ simp s ]

no_word : (line : List ℕ) → prefix_len blank line ≡ 0 → prefix_len in_word line ≡ 0 → words_of line ≡ []
no_word [] h k = refl
no_word (b ∷ bs) h k =
    elim (cases_Bool (blank b)) [
      | inl s ↦ absurd (omega (arith, simp s at h))
      | inr s ↦ elim (cases_Bool (ending b)) [ inl t ↦ simp (s, t) | inr t ↦ absurd (omega (arith, simp (s, t) at k)) ]
    ]

a_word : (line : List ℕ) → 0 < prefix_len in_word line → words_of line ≡ front_word line ∷ words_of (after_word line)
a_word [] h = absurd (omega arith)
a_word (b ∷ bs) h =
    elim (cases_Bool (blank b)) [
      | inl s ↦ absurd (omega (arith, simp s at h))
      | inr s ↦ elim (cases_Bool (ending b))
          [ inl t ↦ absurd (omega (arith, simp (s, t) at h)) | inr t ↦ simp (s, t, one-add) (ap (λ ws. (b ∷ take (prefix_len in_word bs) bs) ∷ ws) (past bs)) ]
    ]

-- a byte that is no line feed does not end the line
same_line : (b : ℕ) (bs : List ℕ) → eqb b 10 ≡ false → next_line (b ∷ bs) ≡ next_line bs
same_line b bs e = simp e

blank_inline : (b : ℕ) → blank b ≡ true → eqb b 10 ≡ false
blank_inline b h = grind (arith, nat_tests)

word_inline : (b : ℕ) → in_word b ≡ true → eqb b 10 ≡ false
word_inline b h = grind (arith, nat_tests)

-- bytes that are no line feeds leave the next line where it is
past_run : (p : ℕ → Bool) → ((b : ℕ) → p b ≡ true → eqb b 10 ≡ false) → (text : List ℕ) → next_line (drop (prefix_len p text) text) ≡ next_line text
past_run p inline [] = refl
past_run p inline (b ∷ bs) =
    elim (cases_Bool (p b)) [ inl s ↦ simp (s, one-add) (past_run p inline bs ∙ sym (same_line b bs (inline b s))) | inr s ↦ simp s ]

-- what is known where the first m bytes of a line past its blanks are cut off
pub record Cut (line first rest : List ℕ) (m : ℕ) : Type 0 where
  pub front : first ≡ front_word (after_blanks line)
  pub left : rest ≡ after_word (after_blanks line)
  pub none : m ≡ 0 → words_of line ≡ []
  pub some : 0 < m → words_of line ≡ first ∷ words_of rest
  pub same : next_line rest ≡ next_line line
  pub within : length rest ≤ length line
  pub shorter : 0 < m → length rest < length line

pub cut : (line bare_line first rest : List ℕ) (n m : ℕ)
    → n ≡ prefix_len blank line → bare_line ≡ drop n line → m ≡ prefix_len in_word bare_line → first ≡ take m bare_line → rest ≡ drop m bare_line
    → Cut line first rest m
cut line bare_line first rest n m n_is bare_is m_is first_is rest_is =
    let e : bare_line ≡ after_blanks line = bare_is ∙ ap (λ k. drop k line) n_is in
    let m_at : m ≡ prefix_len in_word (after_blanks line) = m_is ∙ ap (prefix_len in_word) e in
    let first_at : first ≡ front_word (after_blanks line) = first_is ∙ ap (λ k. take k bare_line) m_is ∙ ap front_word e in
    let rest_at : rest ≡ after_word (after_blanks line) = rest_is ∙ ap (λ k. drop k bare_line) m_is ∙ ap after_word e in
    record {
      front = first_at;
      left = rest_at;
      none = λ z. skipped line ∙ no_word (after_blanks line) (bare line) (sym m_at ∙ z);
      some = λ l. skipped line ∙ a_word (after_blanks line) (subst (λ k. 0 < k) m_at l)
          ∙ ap (λ w. w ∷ words_of (after_word (after_blanks line))) (sym first_at) ∙ ap (λ r. first ∷ words_of r) (sym rest_at);
      same = ap next_line rest_at ∙ past_run in_word word_inline (after_blanks line) ∙ past_run blank blank_inline line;
      within = omega (arith, ap length rest_is, length-drop m bare_line, ap length bare_is, length-drop n line);
      shorter = λ l. omega (arith, l, m_is, prefix_len-le-length in_word bare_line, ap length rest_is, length-drop m bare_line, ap length bare_is, length-drop n line);
    }

-- what is past the first line feed, where there is one
pub line_feed : (text : List ℕ) → prefix_len in_line text < length text → next_line text ≡ Some (drop (suc (prefix_len in_line text)) text)
line_feed [] h = absurd (omega arith)
line_feed (b ∷ bs) h =
    elim (cases_Bool (in_line b)) [ inl s ↦ simp (s, one-add) (line_feed bs (omega (arith, simp s at h))) | inr s ↦ simp s ]

pub no_line_feed : (text : List ℕ) → prefix_len in_line text ≡ length text → next_line text ≡ None
no_line_feed [] e = refl
no_line_feed (b ∷ bs) e =
    elim (cases_Bool (in_line b)) [ inl s ↦ simp s (no_line_feed bs (omega (arith, simp s at e))) | inr s ↦ absurd (omega (arith, simp s at e)) ]

-- what is known of the rest past the first line feed
pub record Past (text rest : List ℕ) : Type 0 where
  pub next : Some rest ≡ next_line text
  pub shorter : length rest < length text

pub past_line : (text rest : List ℕ) (n : ℕ) → n ≡ prefix_len in_line text → n < length text → rest ≡ drop (n + 1) text → Past text rest
past_line text rest n n_is l rest_is =
    record {
      next = ap Some (rest_is ∙ ap (λ k. drop k text) (add-one n ∙ ap suc n_is)) ∙ sym (line_feed text (subst (λ k. k < length text) n_is l));
      shorter = omega (arith, ap length rest_is, length-drop (n + 1) text);
    }

outside : (b : ℕ) → ((b == 10) ≡ true → ⊥) → in_line b ≡ true
outside b h = elim (cases_Bool (b == 10)) [ inl s ↦ absurd (h s) | inr s ↦ simp s ]

-- the first line feed of a text stands where the line ends
pub feed_at : (text : List ℕ) (k : ℕ) → NoneBefore (Passes (is_byte 10) text) 0 (length text) k × Passes (is_byte 10) text k
    → k ≡ prefix_len in_line text
feed_at text k h =
    sym (prefix_len_is in_line text k 0 (omega (arith, h.0.high)) (λ j l. outside (slice_index text j) (h.0.before j (omega arith) l))
    (λ _. simp h.1))

pub no_feed : (text : List ℕ) → Nowhere (Passes (is_byte 10) text) 0 (length text) → prefix_len in_line text ≡ length text
no_feed text h =
    prefix_len_is in_line text (length text) 0 (omega arith) (λ j l. outside (slice_index text j) (h j (omega arith) l))
    (λ l. absurd (omega (arith, l)))
