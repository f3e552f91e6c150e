-- The fresh state's bytes: zeros but for the own group, the own replica and status 1. Assumes nothing.
use Prim.Native.Nat.{ℕ, ◌≤◌, ◌<◌}
use mathlib.Core.Path.{◌≡◌, refl, sym, ap, ◌∙◌}
use mathlib.Core.Bool.{Bool, true, false, ◌&&◌}
use mathlib.Core.List.{List, [], map}
use lib.ListN.{length, replicate, length-replicate}
use lib.Dec.{eqb, ltb}
use borrow.Author.Tests.{lt-ltb, le-ltb, eq-eqb, ne_eqb}
use Rattle.octets.specs.Bytes.{le, splice}
use Rattle.octets.specs.Sections.{concat}
use Rattle.octets.proofs.Laws.{le_zero}
use Rattle.octets.proofs.Sections.{splice_whole}
use Rattle.rules.specs.Group.{shape_fits}
use Rattle.rules.specs.State.{State, in_view, fresh}
use Rattle.rules.specs.Image.{lengths, state_length, zero_bytes, head_section, sections, image}
use Rattle.rules.specs.Bytes.{left, start_bytes}
use Rattle.rules.specs.declared.Shape.{Shape}
use Rattle.std.specs.Prelude.{Ok, Err}
use Rattle.rules.specs.declared.refusals.Refusal.TheVariants.{WrongState}
use Rattle.rules.proofs.Tests.{and_both, pick_true, pick_false}
use Rattle.rules.proofs.Tables.{flat_zeros, points_zeros}
use Rattle.places.specs.Layout.{length_for}
use Rattle.places.proofs.Sections.{Laid, lay}
use Rattle.places.proofs.Head.{put_group, put_replica, put_status}
use Rattle.places.proofs.Zeros.{concat_zeros, long_zeros, table_zeros, notes_zeros, votes_zeros, replies_zeros}

-- ---- the state whose bytes are all zero

abbrev blank : Shape → State
blank sh = in_view 0 (replicate sh.s 0) 0 0 (fresh sh 0 0)

blank_head : (sh : Shape) → head_section (blank sh) ≡ zero_bytes 48
unfolding head_section concat le
blank_head sh = refl

blank_sections : (sh : Shape) → sections sh (blank sh) ≡ map zero_bytes (lengths sh)
blank_sections sh =
    simp (
      blank_head sh,
      flat_zeros (le 4) 4 sh.s 0 (le_zero 4),
      points_zeros sh.n,
      table_zeros sh.c,
      notes_zeros sh,
      votes_zeros sh.c sh.n,
      replies_zeros sh.c sh.s,
    )

pub blank_laid : (sh : Shape) {b : List ℕ} → b ≡ zero_bytes (state_length sh) → Laid sh (blank sh) b
unfolding image
blank_laid sh e =
    lay (e ∙ sym (concat_zeros (lengths sh)) ∙ ap concat (sym (blank_sections sh))) (ap (map length) (blank_sections sh) ∙ long_zeros (lengths sh))

-- ---- the start

first : (a b : Bool) → a ≡ false → (a && b) ≡ false
first a b e = rw e

second : (a b : Bool) → b ≡ false → (a && b) ≡ false
second true b e = e
second false b e = refl

module _ (sh : Shape) (k r : ℕ) (b : List ℕ) where
  pub fresh_laid : (b1 b2 b3 b4 : List ℕ) → length b ≡ state_length sh → b1 ≡ splice b 0 (replicate (length b) 0) → b2 ≡ splice b1 0 (le 1 k) → b3 ≡ splice b2 1 (le 1 r) → b4 ≡ splice b3 2 (le 1 1) → Laid sh (fresh sh k r) b4
  fresh_laid b1 b2 b3 b4 l e1 e2 e3 e4 =
      let z : b1 ≡ zero_bytes (state_length sh) = e1 ∙ splice_whole b (zero_bytes (length b)) (length-replicate {A = ℕ} (length b) 0) ∙ ap zero_bytes l in
      put_status (put_replica (put_group (blank_laid sh z) k e2) r e3) 1 e4

  abbrev asked : Bool
  asked = shape_fits sh && (ltb k sh.s && (ltb r sh.n && eqb (length b) (state_length sh)))

  pub started : (b4 : List ℕ) → shape_fits sh ≡ true → k < sh.s → r < sh.n → length b ≡ state_length sh → Laid sh (fresh sh k r) b4 → left (Ok 0) b4 [] ≡ start_bytes sh k r b
  unfolding start_bytes
  started b4 z hk hr l f =
      let t : asked ≡ true
      = and_both (shape_fits sh) (ltb k sh.s && (ltb r sh.n && eqb (length b) (state_length sh))) z
      (and_both (ltb k sh.s) (ltb r sh.n && eqb (length b) (state_length sh)) (lt-ltb k sh.s hk)
      (and_both (ltb r sh.n) (eqb (length b) (state_length sh)) (lt-ltb r sh.n hr) (eq-eqb (length b) (state_length sh) l))) in
      ap (λ (x : List ℕ). record { refused = false; number = 0; offset = 0; sent = 0; state = x; out = [] }) f.bytes ∙ sym (pick_true asked _ _ t)

  not_asked : asked ≡ false → left (Err WrongState) b [] ≡ start_bytes sh k r b
  unfolding start_bytes
  not_asked t = sym (pick_false asked _ _ t)

  pub wrong_shape : shape_fits sh ≡ false → left (Err WrongState) b [] ≡ start_bytes sh k r b
  wrong_shape e = not_asked (first (shape_fits sh) _ e)

  pub wrong_group : sh.s ≤ k → left (Err WrongState) b [] ≡ start_bytes sh k r b
  wrong_group h = not_asked (second (shape_fits sh) _ (first (ltb k sh.s) _ (le-ltb k sh.s h)))

  pub wrong_replica : sh.n ≤ r → left (Err WrongState) b [] ≡ start_bytes sh k r b
  wrong_replica h = not_asked (second (shape_fits sh) _ (second (ltb k sh.s) _ (first (ltb r sh.n) _ (le-ltb r sh.n h))))

  pub wrong_size : (length b ≡ state_length sh → ⊥) → left (Err WrongState) b [] ≡ start_bytes sh k r b
  wrong_size h = not_asked (second (shape_fits sh) _ (second (ltb k sh.s) _ (second (ltb r sh.n) _ (ne_eqb (length b) (state_length sh) h))))

-- ---- the length of a state

pub length_none : (sh : Shape) → shape_fits sh ≡ false → 0 ≡ length_for sh
unfolding length_for
length_none sh e = sym (pick_false (shape_fits sh) (state_length sh) 0 e)

pub length_some : (sh : Shape) → shape_fits sh ≡ true → state_length sh ≡ length_for sh
unfolding length_for
length_some sh e = sym (pick_true (shape_fits sh) (state_length sh) 0 e)
