-- Why the laws hold that policies and layers owe: lemmas, and `pushed`, which only proofs speak of. They stand here since an impl
-- can cite no others, and no promise rests on them.
use Rattle.std.specs.Prelude.{◌≡◌, ℕ, zero, suc, ◌+◌, ◌*◌, ◌/◌, ◌<◌, ◌≤◌, Bool, true, false, cond, List, [], ◌∷◌, ◌++◌, length, take, drop, ◌==◌, slice_set, slice_index, refl}
use Rattle.std.proofs.Common.{ap, ◌∙◌, suc-mul, mul-le-mul_right, mod-lt, not-suc-le-zero, arith}
use Rattle.std.proofs.lemmas.List.{length-append, length-take, length-drop, length-set, length-replicate, length-take-le, take_at, drop_at, take_all, get_or-set_same}
use Rattle.std.proofs.lemmas.Bool.{eq-eqb}
use Rattle.std.specs.Int.Count.{ones, ones_in}
use Rattle.memory.specs.Makes.{Request, read, write, Make, Lawful}
use Rattle.caches.specs.Policies.{Rules, Steady}
use Rattle.caches.specs.Places.{set_at, mark_at}
use Rattle.caches.specs.Direct.{direct_rules}
use Rattle.caches.specs.Lru.{has, without, newest, row_at, with_row, brought, lru_rules}
use Rattle.caches.specs.Layers.{own, through, layer_price, layer_next, layer_make}

-- a number with a bit set is not 0
pub some : (n : ℕ) → ones n ≡ 1 → 0 < n
unfolding ones ones_in
some zero e = omega arith
some (suc n) e = omega arith

-- a row ends in the table
pub row_within : (i s w : ℕ) → i < s → i * w + w ≤ s * w
row_within i s w h = rw (← suc-mul) (mul-le-mul_right w h)

-- a line that was entered is kept
direct_comes :
    (line sets a : ℕ) (t : List ℕ) → 0 < sets → length t ≡ sets → (direct_rules line sets).kept a ((direct_rules line sets).entered a t) ≡ true
direct_comes line sets a t some whole =
    let placed : set_at line sets a < length t = omega (arith, mod-lt (a / line) some) in
    eq-eqb (slice_index (slice_set t (set_at line sets a) (mark_at line a)) (set_at line sets a)) (mark_at line a)
    (get_or-set_same t (set_at line sets a) (mark_at line a) 0 placed)

pub direct_steady : (line sets : ℕ) → ones sets ≡ 1 → Steady (direct_rules line sets)
direct_steady line sets one =
    record {
      whole = length-replicate sets 0;
      used_whole = λ a t. refl;
      entered_whole = λ a t. length-set t _ _;
      stays = λ a t whole kept. kept;
      comes = λ a t whole. direct_comes line sets a t (some sets one) whole;
    }

-- how the loop does it: c is put in front, and each number moves one place on, up to where x stood
abbrev pub pushed : ℕ → ℕ → List ℕ → List ℕ
pushed x c [] = []
pushed x c (y ∷ ys) = c ∷ cond (y == x) ys (pushed x y ys)

pushed_front : (b : Bool) (y : ℕ) (ys ws ps : List ℕ) → take (length ys) (y ∷ ws) ≡ ps → take (length ys) (cond b ys (y ∷ ws)) ≡ cond b ys ps
pushed_front true y ys ws ps e = take_all (length ys) ys (omega arith)
pushed_front false y ys ws ps e = e

pub pushed_is : (x c : ℕ) (row : List ℕ) → take (length row) (c ∷ without x row) ≡ pushed x c row
pushed_is x c [] = refl
pushed_is x c (y ∷ ys) = ap (λ (r : List ℕ). c ∷ r) (pushed_front (y == x) y ys (without x ys) (pushed x y ys) (pushed_is x y ys))

cond_ap : (b : Bool) (n : ℕ) (xs ys : List ℕ) → length xs ≡ n → length ys ≡ n → length (cond b xs ys) ≡ n
cond_ap true n xs ys e f = e
cond_ap false n xs ys e f = f

pub length_pushed : (x c : ℕ) (row : List ℕ) → length (pushed x c row) ≡ length row
length_pushed x c [] = refl
length_pushed x c (y ∷ ys) = ap suc (cond_ap (y == x) (length ys) ys (pushed x y ys) refl (length_pushed x y ys))

pub length_newest : (x : ℕ) (row : List ℕ) → length (newest x row) ≡ length row
length_newest x row = ap (λ (r : List ℕ). length r) (pushed_is x x row) ∙ length_pushed x x row

module _ (first ways : ℕ) (f : List ℕ → List ℕ) (kept : (r : List ℕ) → length (f r) ≡ length r) where
  pub length_with_row : (t : List ℕ) → length (with_row first ways f t) ≡ length t
  length_with_row t = simp (length-append, kept, length-take, length-drop) (omega arith)

-- bringing a line to the front keeps the table's length
same_length : (line sets ways a : ℕ) (t : List ℕ) → length (brought line sets ways a t) ≡ length t
same_length line sets ways a = length_with_row (set_at line sets a * ways) ways (newest (mark_at line a)) (length_newest (mark_at line a))

-- the mark that was brought to the front is in the row
has_newest : (x : ℕ) (row : List ℕ) → 0 < length row → has x (newest x row) ≡ true
has_newest x [] h = absurd (not-suc-le-zero h)
has_newest x (y ∷ ys) h = ap (λ (b : Bool). cond b true (has x (take (length ys) (without x (y ∷ ys))))) (eq-eqb x x refl)

-- a row that was changed, read again
row_changed :
    (first ways : ℕ) (f : List ℕ → List ℕ) → ((r : List ℕ) → length (f r) ≡ length r)
    → (t : List ℕ) → first + ways ≤ length t → row_at first ways (with_row first ways f t) ≡ f (row_at first ways t)
row_changed first ways f kept t h =
    let row : length (row_at first ways t) ≡ ways = length-take-le ways (drop first t) (simp length-drop (omega arith)) in
    ap (take ways) (drop_at (take first t) (f (row_at first ways t) ++ drop ways (drop first t)) first (length-take-le first t (omega arith)))
    ∙ take_at (f (row_at first ways t)) (drop ways (drop first t)) ways (kept (row_at first ways t) ∙ row)

-- a line that was read is kept
lru_comes :
    (line sets ways a : ℕ) (t : List ℕ) → 0 < sets → 0 < ways → length t ≡ sets * ways
    → (lru_rules line sets ways).kept a (brought line sets ways a t) ≡ true
lru_comes line sets ways a t some one whole =
    let first = set_at line sets a * ways in
    let x = mark_at line a in
    let within : first + ways ≤ length t = omega (arith, whole, row_within (set_at line sets a) sets ways (mod-lt (a / line) some)) in
    let row : length (row_at first ways t) ≡ ways = length-take-le ways (drop first t) (simp length-drop (omega arith)) in
    ap (has x) (row_changed first ways (newest x) (length_newest x) t within)
    ∙ has_newest x (row_at first ways t) (omega (arith, row))

pub lru_steady : (line sets ways : ℕ) → ones sets ≡ 1 → 1 ≤ ways → Steady (lru_rules line sets ways)
lru_steady line sets ways one more =
    let kept = λ (a : ℕ) (t : List ℕ) (whole : length t ≡ sets * ways). lru_comes line sets ways a t (some sets one) more whole in
    record {
      whole = length-replicate (sets * ways) 0;
      used_whole = same_length line sets ways;
      entered_whole = same_length line sets ways;
      stays = λ a t whole was. kept a t whole;
      comes = kept;
    }

pub length_own : (n : ℕ) (s : List ℕ) → length (own n s) ≡ n
unfolding own
length_own n s = simp (length-take, length-append, length-replicate) (omega arith)

module _ (p : Rules) (steady : Steady p) (hit : ℕ) (cheap : hit ≤ 255) (k : Make) (below : Lawful k) where
  capped : (x : ℕ) → through hit x ≤ 65535
  capped x = omega arith

  either : (b : Bool) (x : ℕ) → cond b hit (through hit x) ≤ 65535
  either true x = omega arith
  either false x = capped x

  priced : (q : Request) (s : List ℕ) → layer_price p hit k q s ≤ 65535
  priced (read a) s = either (p.kept a (own p.count s)) _
  priced (write a) s = capped _

  emptied : (t r : List ℕ) → length t ≡ p.count → p.empty ++ k.cold (drop p.count (t ++ r)) ≡ p.empty ++ k.cold r
  emptied t r e = ap (λ (x : List ℕ). p.empty ++ k.cold x) (drop_at t r p.count e)

  -- a read leaves the layer as cold as before, whether its line is kept or not
  forgets_read :
      (b : Bool) (a : ℕ) (t r : List ℕ) → length t ≡ p.count
      → p.empty ++ k.cold (drop p.count (cond b (p.used a t ++ r) (p.entered a t ++ k.next (read a) r))) ≡ p.empty ++ k.cold r
  forgets_read true a t r e = emptied (p.used a t) r (steady.used_whole a t ∙ e)
  forgets_read false a t r e =
      emptied (p.entered a t) _ (steady.entered_whole a t ∙ e) ∙ ap (λ (x : List ℕ). p.empty ++ x) (below.forgets (read a) r)

  forgets : (q : Request) (s : List ℕ) → (layer_make p hit k).cold (layer_next p k q s) ≡ (layer_make p hit k).cold s
  forgets (read a) s = forgets_read (p.kept a (own p.count s)) a (own p.count s) (drop p.count s) (length_own p.count s)
  forgets (write a) s =
      emptied (own p.count s) _ (length_own p.count s) ∙ ap (λ (x : List ℕ). p.empty ++ x) (below.forgets (write a) (drop p.count s))

  settles : (s : List ℕ) → (layer_make p hit k).cold ((layer_make p hit k).cold s) ≡ (layer_make p hit k).cold s
  settles s = emptied p.empty _ steady.whole ∙ ap (λ (x : List ℕ). p.empty ++ x) (below.settles (drop p.count s))

  pub layer_lawful : Lawful (layer_make p hit k)
  layer_lawful = record { priced = priced; forgets = forgets; settles = settles }
