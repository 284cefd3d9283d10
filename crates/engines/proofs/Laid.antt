-- From what work on a list did to what its section did, and one section after another.
use Rattle.std.proofs.Common.{◌≡◌, ℕ, ◌+◌, ◌-◌, ◌<◌, ◌≤◌, List, [], ◌∷◌, ◌++◌, length, take, drop, set, sym, refl, ap, ◌∙◌, subst, append_assoc, append-nil, add-zero, zero-add, mul-add, arith, length-append, length-drop, length-set}
use lib.ListN.{length-map}
use borrow.Rule.Slice.PartMut.{put_mid}
use Rattle.std.proofs.lemmas.List.{take_at, drop_at, drop-drop, drop_all, take_rest, take_more_set, drop-set-lt, take-append-drop}
use Rattle.memory.specs.Meanings.{Meaning}
use Rattle.trace.specs.Acts.{Act, trace_word, trace_words, written}
use Rattle.trace.specs.Did.{Scene, Did}
use Rattle.trace.specs.declared.pen.Pen.{Pen}
use Rattle.trace.proofs.Joins.{after_append, cycles_append}
use Rattle.engines.specs.Ran.{laid, Desk, desk, Ran}

-- words written from a place on stand between what was before and what was behind
written_from : (xs : List ℕ) (k : ℕ) (ws : List ℕ) → k + length ws ≤ length xs → written xs k ws ≡ take k xs ++ (ws ++ drop (k + length ws) xs)
written_from xs k [] h = sym (rw add-zero (take-append-drop k xs))
written_from xs k (w ∷ ws) h =
    let lt : k < length xs = omega arith in
    let more : k + 1 + length ws ≤ length (set xs k w) = simp length-set (omega arith) in
    let past : k < k + 1 + length ws = omega arith in
    let same : k + 1 + length ws ≡ k + length (w ∷ ws) = omega arith in
    written_from (set xs k w) (k + 1) ws more
    ∙ rw (take_more_set xs k w lt, drop-set-lt (k + 1 + length ws) xs k w past, same, append_assoc) refl

pub written_laid : (xs ws : List ℕ) → length ws ≤ length xs → written xs 0 ws ≡ laid ws xs
unfolding laid
written_laid xs ws h = let h' : 0 + length ws ≤ length xs = omega arith in written_from xs 0 ws h' ∙ rw zero-add refl

-- work on a list over the whole buffer is the section's
pub section_ran : {n : ℕ} {acts : List Act} {s t : Scene} {paid : ℕ} (k : ℕ) (xs ys : List ℕ) (p q : Pen) → Did n acts s t paid → n ≤ length xs
    → s.items ≡ xs → s.len ≡ 0 → s.section ≡ k → s.entries ≡ p.entries → ys ≡ t.items → q.section ≡ p.section → q.entries ≡ t.entries
    → Ran n acts (trace_words k acts) (desk s.memory xs p) (desk t.memory ys q) paid
section_ran {n} {acts} {s} {t} {paid} k xs ys p q d h e₀ e₁ e₂ e₃ e₄ e₅ e₆ =
    let long : length (trace_words k acts) ≡ n = length-map acts (trace_word k) ∙ d.count in
    let room : length (trace_words k acts) ≤ length xs = omega arith in
    record {
      count = d.count;
      long = long;
      memory = d.memory;
      trace = e₄ ∙ d.items ∙ rw (e₀, e₁, e₂) (written_laid xs (trace_words k acts) room);
      section = e₅;
      entries = omega arith;
      cost = d.cost;
      size = d.size;
      fits = d.fits;
    }

-- what two sections that write one after the other leave of the whole buffer
over : (xs ws vs : List ℕ)
    → put_mid (length ws) (length (laid ws xs) - length ws) (laid ws xs) (laid vs (drop (length ws) (laid ws xs))) ≡ laid (ws ++ vs) xs
unfolding laid
over xs ws vs =
    let n = length ws in
    let front : take n (laid ws xs) ≡ ws = take_at ws (drop n xs) n refl in
    let back : drop n (laid ws xs) ≡ drop n xs = drop_at ws (drop n xs) n refl in
    let past : drop (length (laid ws xs) - n) (drop n (laid ws xs)) ≡ [] = drop_all (length (laid ws xs) - n) (drop n (laid ws xs)) (omega (arith, length-drop n (laid ws xs))) in
    rw (past, front) (simp (back, append-nil, drop-drop, length-append, append_assoc))

laid_joined : (xs ys zs ws vs : List ℕ) (n : ℕ) → n ≡ length ws → ys ≡ laid ws xs → zs ≡ laid vs (take (length ys - n) (drop n ys))
    → put_mid n (length ys - n) ys zs ≡ laid (ws ++ vs) xs
laid_joined xs ys zs ws vs n e p q =
    let r : zs ≡ laid vs (drop n ys) = q ∙ ap (laid vs) (take_rest ys n) in
    rw (r, p, e) (over xs ws vs)

-- one section, and another on the buffer's tail
pub ran_joined : {n k : ℕ} {a b : List Act} {ws vs : List ℕ} {m m' m'' : Meaning} {xs ys zs : List ℕ} {p q r : Pen} {paid more : ℕ} (i : ℕ) → i ≡ n
    → Ran n a ws (desk m xs p) (desk m' ys q) paid → Ran k b vs (desk m' (take (length ys - i) (drop i ys)) q) (desk m'' zs r) more
    → Ran (n + k) (a ++ b) (ws ++ vs) (desk m xs p) (desk m'' (put_mid i (length ys - i) ys zs) r) (paid + more)
ran_joined {n} {k} {a} {b} {ws} {vs} {m} {m'} {m''} {xs} {ys} {zs} {p} {q} {r} {paid} {more} i at d e =
    record {
      count = length-append a b ∙ ap (λ j. j + length b) d.count ∙ ap (λ j. n + j) e.count;
      long = length-append ws vs ∙ ap (λ j. j + length vs) d.long ∙ ap (λ j. n + j) e.long;
      memory = rw (e.memory, d.memory) (sym (after_append m a b));
      trace = laid_joined xs ys zs ws vs i (at ∙ sym d.long) d.trace e.trace;
      section = e.section ∙ d.section;
      entries = omega arith;
      cost = rw (d.cost, e.cost, d.memory) (sym (cycles_append m a b));
      size = e.size ∙ d.size;
      fits = omega (arith, mul-add 65535 n k);
    }

-- the same, of acts that are known to be others
pub ran_retold : {n : ℕ} {a b : List Act} {s t : Desk} {paid : ℕ} (k : ℕ) → Ran n a (trace_words k a) s t paid → a ≡ b → Ran n b (trace_words k b) s t paid
ran_retold {n} {a} {b} {s} {t} {paid} k d e = subst (λ xs. Ran n xs (trace_words k xs) s t paid) e d
