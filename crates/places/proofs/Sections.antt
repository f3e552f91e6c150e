-- Bytes that hold a state, section by section: what stands in a section, and what a write into it leaves. Assumes nothing.
use Prim.Native.Nat.{ℕ, zero, suc, ◌+◌, ◌*◌, ◌%◌, ◌≤◌, ◌<◌}
use mathlib.Core.Path.{◌≡◌, refl, sym, ap, subst, ◌∙◌}
use mathlib.Core.Bool.{Bool, true, false, ◌&&◌, ◌||◌, true≢false}
use mathlib.Core.List.{List, [], ◌∷◌, ◌++◌, map}
use native.Mathlib.Omega.{arith}
use native.Mathlib.Nat.{mul-le-mul}
use lib.ListN.{length, take, drop, get_or, set, get_or-map}
use lib.Seq.{map-set_same}
use lib.Dec.{eqb, leb}
use borrow.Author.Tests.{eqb-true, ltb-true}
use Rattle.octets.specs.Bytes.{part, splice}
use Rattle.octets.specs.Sections.{concat, offset, total}
use Rattle.octets.proofs.Laws.{length_splice, splice_home}
use Rattle.octets.proofs.Sections.{get_in_section, set_in_section, part_whole, splice_whole}
use Rattle.rules.specs.Group.{permitted, sizes_fit, shape_fits}
use Rattle.rules.specs.State.{State}
use Rattle.rules.specs.Image.{table_length, note_length, vote_length, reply_length, lengths, state_length, sections, image, state_of, good_bytes, at_draft, at_early, at_heard, at_late, at_log, at_notes, at_replies, at_votes, at_end}
use Rattle.rules.specs.declared.Shape.{Shape}
use Rattle.rules.proofs.Tests.{and_l}
use Rattle.rules.proofs.Entries.{drop_section}
use Rattle.rules.proofs.Conjuncts.{good_is}
use Rattle.rules.proofs.Image.{StateFits, long_sections, length_total, state_back}
use Rattle.rules.proofs.Good.{room, shape_sizes, good_state, good_bytes_lem}
use Rattle.places.specs.Layout.{start_of, places_of, Marks, Fits, Sized, Midway, Stands, Own, longest}
use Rattle.places.specs.declared.Places.{Places}

-- ---- a shape in range

odd_is : (n : ℕ) → permitted n ≡ true → n % 2 ≡ 1
odd_is n e = go (eqb n 3) (eqb n 5) (eqb n 7) refl refl refl e
  where
    go : (x y z : Bool) → eqb n 3 ≡ x → eqb n 5 ≡ y → eqb n 7 ≡ z → (x || (y || z)) ≡ true → n % 2 ≡ 1
    go true y z a b c h = rw (eqb-true n 3 a)
    go false true z a b c h = rw (eqb-true n 5 b)
    go false false true a b c h = rw (eqb-true n 7 c)
    go false false false a b c h = absurd (true≢false (sym h))

pub fits : (sh : Shape) → shape_fits sh ≡ true → Fits sh
fits sh e =
    let z = shape_sizes sh e in
    let r = room sh e in
    let p : sizes_fit sh.n sh.s ≡ true = and_l (sizes_fit sh.n sh.s) (leb 16 sh.c && leb sh.c 4096) e in
    record {
      least = z.least;
      most = z.most;
      odd = odd_is sh.n (and_l (permitted sh.n) (leb 1 sh.s && leb sh.s 8) p);
      groups = z.some;
      few = z.groups;
      room = r.0;
      small = r.1;
    }

-- the products of two sizes
pub products : (sh : Shape) → Fits sh → (note_length sh.s * sh.c ≤ note_length 8 * 4096) × (vote_length sh.c * sh.n ≤ vote_length 4096 * 7) × (reply_length sh.c * sh.s ≤ reply_length 4096 * 8)
products sh f =
    let a : note_length sh.s ≤ note_length 8 = omega arith in
    let b : vote_length sh.c ≤ vote_length 4096 = omega arith in
    let c : reply_length sh.c ≤ reply_length 4096 = omega arith in
    (mul-le-mul a f.small, mul-le-mul b f.most, mul-le-mul c f.few)

-- each section begins where the one before it ends
pub in_a_row : (sh : Shape) (heard log early late notes votes draft replies end table : ℕ) → table ≡ table_length sh.c → heard ≡ 48 + 4 * sh.s → log ≡ heard + 9 * sh.n → early ≡ log + table → late ≡ early + table → notes ≡ late + table → votes ≡ notes + (4 + note_length sh.s * sh.c) → draft ≡ votes + vote_length sh.c * sh.n → replies ≡ draft + table → end ≡ replies + reply_length sh.c * sh.s
    → ◌≡◌ {A = Places} (record { views = 48; heard = heard; log = log; early = early; late = late; notes = notes; votes = votes; draft = draft; replies = replies; end = end; table = table; note = note_length sh.s; vote = vote_length sh.c; reply = reply_length sh.c }) (places_of sh)
in_a_row sh heard log early late notes votes draft replies end table t e2 e3 e4 e5 e6 e7 e8 e9 e10 =
    let s2 : heard ≡ start_of sh at_heard = omega arith in
    let s3 : log ≡ start_of sh at_log = omega arith in
    let s4 : early ≡ start_of sh at_early = omega arith in
    let s5 : late ≡ start_of sh at_late = omega arith in
    let s6 : notes ≡ start_of sh at_notes = omega arith in
    let s7 : votes ≡ start_of sh at_votes = omega arith in
    let s8 : draft ≡ start_of sh at_draft = omega arith in
    let s9 : replies ≡ start_of sh at_replies = omega arith in
    let s10 : end ≡ start_of sh (at_end sh) = omega arith in
    rw (s2, s3, s4, s5, s6, s7, s8, s9, s10, t)

pub state_small : (sh : Shape) → Fits sh → state_length sh ≤ longest
state_small sh f = omega (arith, products sh f)

pub marks : (sh : Shape) (p : Places) → Fits sh → p ≡ places_of sh → Marks sh p
marks sh p f e = record { all = e; views = ap (λ (q : Places). q.views) e; heard = ap (λ (q : Places). q.heard) e; log = ap (λ (q : Places). q.log) e; early = ap (λ (q : Places). q.early) e; late = ap (λ (q : Places). q.late) e; notes = ap (λ (q : Places). q.notes) e; votes = ap (λ (q : Places). q.votes) e; draft = ap (λ (q : Places). q.draft) e; replies = ap (λ (q : Places). q.replies) e; end = ap (λ (q : Places). q.end) e; table = ap (λ (q : Places). q.table) e; note = ap (λ (q : Places). q.note) e; vote = ap (λ (q : Places). q.vote) e; reply = ap (λ (q : Places). q.reply) e; small = state_small sh f }

-- ---- good bytes hold the good state in them

pub stands : (sh : Shape) (b : List ℕ) → good_bytes sh b ≡ true → Stands sh (state_of sh b) b
stands sh b e =
    let g = good_bytes_lem sh b e in
    record { fits = fits sh g.fits; shape = g.fits; good = g.good; bytes = sym g.bytes; size = g.long }

module _ {sh : Shape} {st : State} {b : List ℕ} (s : Stands sh st b) where
  pub stands_fits : StateFits sh st
  stands_fits = good_state sh s.shape st s.good

  -- a good state is on the way
  pub stands_midway : Midway sh st b
  stands_midway = record { fits = s.fits; holds = stands_fits; bytes = s.bytes; size = s.size }

  pub stands_own : Own sh st
  stands_own = let g = (good_is sh st s.good).ranges in record { group = ltb-true _ _ g.group; replica = ltb-true _ _ g.replica }

module _ {sh : Shape} {st : State} {b : List ℕ} (m : Midway sh st b) where
  -- the state on the way is the one that is read from the bytes
  pub midway_is : state_of sh b ≡ st
  midway_is = ap (state_of sh) m.bytes ∙ state_back sh st m.holds

  pub midway_here : Midway sh (state_of sh b) b
  midway_here = subst (λ (x : State). Midway sh x b) (sym midway_is) m

  pub midway_sized : Sized sh b
  midway_sized = record { fits = m.fits; size = m.size }

-- ---- bytes that are being written: those of a state section by section, whether or not its numbers fit theirs

pub record Laid (sh : Shape) (st : State) (b : List ℕ) : Type 0 where
  pub bytes : b ≡ image sh st
  pub long : map length (sections sh st) ≡ lengths sh
  pub size : length b ≡ state_length sh

module _ {sh : Shape} {st : State} where
  pub lay : {b : List ℕ} → b ≡ image sh st → map length (sections sh st) ≡ lengths sh → Laid sh st b
  unfolding image
  lay e h = record { bytes = e; long = h; size = ap length e ∙ (length_total (sections sh st) ∙ ap total h) }

  -- bytes that are a state's image are laid as any other that are
  pub laid_as : {b b' : List ℕ} → Laid sh st b → b' ≡ image sh st → Laid sh st b'
  laid_as l e = lay e l.long

  pub midway_laid : {b : List ℕ} → Midway sh st b → Laid sh st b
  midway_laid m = lay m.bytes (long_sections sh st m.holds)

  pub stands_laid : {b : List ℕ} → Stands sh st b → Laid sh st b
  stands_laid s = midway_laid (stands_midway s)

  -- what was written is on the way where it fits
  pub laid_midway : {b : List ℕ} → Fits sh → StateFits sh st → Laid sh st b → Midway sh st b
  laid_midway z f l = record { fits = z; holds = f; bytes = l.bytes; size = l.size }

-- ---- section i

offset_total : (ss : List (List ℕ)) (i : ℕ) → offset ss i ≡ total (take i (map length ss))
offset_total ss zero = refl
offset_total [] (suc i) = refl
offset_total (s ∷ ss) (suc i) = ap (λ (n : ℕ). length s + n) (offset_total ss i)

module _ {sh : Shape} {st : State} {b : List ℕ} (l : Laid sh st b) where
  pub starts : (i : ℕ) → start_of sh i ≡ offset (sections sh st) i
  starts i = sym (offset_total (sections sh st) i ∙ ap (λ (ns : List ℕ). total (take i ns)) l.long)

  pub long_at : (i : ℕ) → length (get_or (sections sh st) i []) ≡ get_or (lengths sh) i 0
  long_at i = sym (get_or-map length (sections sh st) i []) ∙ ap (λ (ns : List ℕ). get_or ns i 0) l.long

  -- what stands in section i from its place k on
  pub get_in : (i k at n : ℕ) → i < at_end sh → at ≡ start_of sh i + k → k + n ≤ get_or (lengths sh) i 0 → part b at n ≡ part (get_or (sections sh st) i []) k n
  unfolding image
  get_in i k at n h e r =
      ap (λ (x : List ℕ). part x at n) l.bytes
      ∙ get_in_section (sections sh st) i k at n h (e ∙ ap (λ (a : ℕ). a + k) (starts i)) (rw (long_at i) r)

  -- all of section i
  pub get_all : (i at n : ℕ) → i < at_end sh → at ≡ start_of sh i → n ≡ get_or (lengths sh) i 0 → part b at n ≡ get_or (sections sh st) i []
  get_all i at n h e r = get_in i 0 at n h (omega arith) (omega arith) ∙ part_whole (get_or (sections sh st) i []) n (omega (arith, long_at i))

  -- section i, and what stands after it
  pub drop_all : (i at : ℕ) → i < at_end sh → at ≡ start_of sh i → drop at b ≡ get_or (sections sh st) i [] ++ concat (drop (suc i) (sections sh st))
  unfolding image
  drop_all i at h e = ap (drop at) l.bytes ∙ drop_section (sections sh st) i at h (e ∙ starts i)

  -- a write into section i from its place k on
  pub put_in : {b' : List ℕ} (next : State) (i k at : ℕ) (x : List ℕ) → i < at_end sh → at ≡ start_of sh i + k → k + length x ≤ get_or (lengths sh) i 0 → set (sections sh st) i (splice (get_or (sections sh st) i []) k x) ≡ sections sh next → b' ≡ splice b at x → Laid sh next b'
  unfolding image
  put_in next i k at x h e r q w =
      let m : k + length x ≤ length (get_or (sections sh st) i []) = rw (long_at i) r in
      lay
      (w ∙ ap (λ (y : List ℕ). splice y at x) l.bytes ∙ set_in_section (sections sh st) i k at x h (e ∙ ap (λ (a : ℕ). a + k) (starts i)) m ∙ ap concat q)
      (ap (map length) (sym q) ∙ map-set_same length (sections sh st) i (splice (get_or (sections sh st) i []) k x) [] (length_splice (get_or (sections sh st) i []) k x m) ∙ l.long)

  -- all of section i written
  pub put_all : {b' : List ℕ} (next : State) (i at : ℕ) (x : List ℕ) → i < at_end sh → at ≡ start_of sh i → length x ≡ get_or (lengths sh) i 0 → set (sections sh st) i x ≡ sections sh next → b' ≡ splice b at x → Laid sh next b'
  put_all next i at x h e r q w =
      put_in next i 0 at x h (omega arith) (omega arith)
      (ap (set (sections sh st) i) (splice_whole (get_or (sections sh st) i []) x (r ∙ sym (long_at i))) ∙ q)
      w

  -- ---- a section lent to a callee: its form there, and the form in which it comes home
  pub lent : (i at n : ℕ) → i < at_end sh → at ≡ start_of sh i → n ≡ get_or (lengths sh) i 0 → take n (drop at b) ≡ get_or (sections sh st) i []
  unfolding part
  lent i at n h e r = get_all i at n h e r

  pub home : {b' : List ℕ} (next : State) (i at n : ℕ) (x : List ℕ) → i < at_end sh → at ≡ start_of sh i → n ≡ get_or (lengths sh) i 0 → length x ≡ n → set (sections sh st) i x ≡ sections sh next → b' ≡ take at b ++ (x ++ drop n (drop at b)) → Laid sh next b'
  home next i at n x h e r m q w = put_all next i at x h e (m ∙ r) q (w ∙ splice_home b at n x m)
