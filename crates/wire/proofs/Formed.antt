-- When the writer's parts are formed, and what it answers. Assumes nothing.
use Rattle.std.specs.Prelude.{Ok, Err, is_ok, MatchResult, IsErrAnd}
use Prim.Native.Nat.{ℕ, ◌+◌, ◌-◌, ◌*◌, ◌/◌, ◌^◌, ◌≤◌, ◌<◌}
use mathlib.Core.Path.{◌≡◌, refl, sym, ap, ap₂, ◌∙◌}
use mathlib.Core.Bool.{Bool, true, false, ◌&&◌, not, and-false, true≢false}
use mathlib.Core.List.{List, [], ◌∷◌}
use native.Mathlib.Omega.{arith}
use lib.ListN.{length, take, get_or}
use lib.Dec.{eqb, ltb}
use borrow.Author.Tests.{lt-ltb, ltb-true, le-leb, lt-leb, not-true, not-false}
use Rattle.octets.specs.Bytes.{num, items, splice}
use Rattle.octets.proofs.Laws.{Bytes, num_lt}
use Rattle.octets.proofs.Codecs.{length_items, get_or_items}
use Rattle.rules.specs.Choice.{pick, every}
use Rattle.rules.specs.Entry.{no_entry, entry_of}
use Rattle.rules.specs.Group.{sizes_fit}
use Rattle.rules.specs.Wire.{wire_bytes, numbers_of}
use Rattle.rules.specs.Kind.{bare, views_in}
use Rattle.rules.specs.Wire as Wires
use Rattle.rules.specs.Read.{entry_at, entries_at, ◌to◌is◌, head_rows, body_rows, first_wrong, and_then, entries_wrong, entry_wide, wide, is_fine}
use Rattle.rules.specs.Read as Reads
use Rattle.rules.specs.Write.{wire_from, whole, parts_wrong, parts_formed, writes}
use Rattle.rules.specs.declared.Message.{Message}
use Rattle.rules.specs.declared.WrongField.{WrongField}
use Rattle.rules.specs.Read.{Verdict}
use Rattle.rules.specs.Read.{all_right, wrong_field}
use Rattle.rules.proofs.Tests.{and_r, and_both, join, ◌also◌, each_of, all_items, at_all, sizes}
use Rattle.rules.proofs.Verdicts.{then_fine, front_fine, body_ext, entries_wrong_ext}
use Rattle.rules.proofs.Messages.{formed_fits}
use Rattle.rules.proofs.Case.{PartsAre, parts_fine, parts_are}
use Rattle.fields.specs.declared.Parts.{Parts}
use Rattle.writer.specs.declared.Said.{Said}
use Rattle.fields.specs.Parts.{fields_from, fields_of, headed}
use Rattle.writer.specs.Said.{said_of, size_of, Room}
use Rattle.verdicts.specs.Rows.{row_in}
use Rattle.verdicts.proofs.Entries.{entries_head}
use Rattle.writer.proofs.Writer.{length_bytes, numbers_said_lem}

-- verdicts in a row
joined : (a b c d : Verdict) → and_then a (and_then b (and_then c d)) ≡ and_then (and_then a (and_then b c)) d
unfolding and_then
joined (Ok o) (Ok p) (Ok q) d = refl
joined (Ok o) (Ok p) (Err w) d = refl
joined (Ok o) (Err w) c d = refl
joined (Err w) b c d = refl

-- a verdict that is handed on with what a wrong field says, as it stands or told anew
pub told_wrong : (v w : Verdict) (x : WrongField) (P : WrongField → WrongField → Type 0) → MatchResult v (λ o. w ≡ Ok o) (λ e. IsErrAnd w (P e)) → w ≡ Err x → ((e y : WrongField) → P e y → e ≡ y) → v ≡ Err x
told_wrong (Ok o) w x P m q f = absurd (true≢false (ap is_ok (sym m ∙ q)))
told_wrong (Err e) (Ok o) x P m q f = absurd m
told_wrong (Err e) (Err y) x P m q f = ap Err (f e y m) ∙ q

pub told_right : (v w : Verdict) (o : Unit {0}) → is_ok w ≡ is_ok v → w ≡ Ok o → v ≡ Ok o
told_right (Ok o) w u e q = refl
told_right (Err x) w u e q = absurd (true≢false (ap is_ok (sym q) ∙ e))

-- each number in a slice is one of 8 bytes
pub all_wide : (xs : List ℕ) → ((i : ℕ) → get_or xs i 0 < 2 ^ 64) → every (λ x. ltb x (2 ^ 64)) xs ≡ true
all_wide xs known = each_of _ _ (at_all (λ x. ltb x (2 ^ 64) ≡ true) 0 xs (λ i h. lt-ltb _ _ (known i)))

-- those of a case
pub numbers_wide : (m : Message) (p : Said) → p ≡ said_of m → every (λ x. ltb x (2 ^ 64)) (take (p.count - 0) p.numbers) ≡ true → every (λ x. ltb x (2 ^ 64)) (numbers_of m) ≡ true
numbers_wide m p e h = let z : p.count - 0 ≡ p.count = omega arith in rw (z, e, numbers_said_lem m) at h

-- the parts that a case says, and its blocks
abbrev parts_said : Said → List ℕ → List ℕ → Parts
parts_said p views entries =
    record { header = p.header; zeros = 0; views = length views / 4; numbers = p.count; entries = length entries / 24 }

module _ (n s : ℕ) (m : Message) (views entries : List ℕ) where
  abbrev made : Wires.Wire
  made = wire_from m views entries

  abbrev count : ℕ
  count = length entries / 24

  abbrev parts : Parts
  parts = parts_said (said_of m) views entries

  -- the three runs of fields of the message, as the functions read them
  head_same : first_wrong (head_rows n s (fields_of parts [])) ≡ first_wrong (head_rows n s (Reads.fields_of made))
  unfolding Reads.fields_of wire_from
  head_same = refl

  body_same : first_wrong (body_rows s (fields_of parts (numbers_of m))) ≡ first_wrong (body_rows s (Reads.fields_of made))
  unfolding Reads.fields_of wire_from
  body_same =
      simp length_items
      (ap first_wrong (body_ext n s (fields_of parts (numbers_of m)) (λ i. get_or (numbers_of m) i 0) (λ i. get_or (numbers_of m) i 0) (λ i. no_entry) (entry_of (items (entry_at entries) 24 0 count)) (λ i h. refl)))

  entries_same : entries_wrong s (fields_from (headed parts.header) [] (row_in entries 0)) count count ≡ entries_wrong s (Reads.fields_of made) count count
  unfolding Reads.fields_of wire_from
  entries_same =
      sym (entries_head s parts (numbers_of m) (row_in entries 0) count count)
      ∙ simp length_items
      (entries_wrong_ext n s (fields_from parts (numbers_of m) (row_in entries 0)) (λ i. get_or (numbers_of m) i 0) (λ i. get_or (numbers_of m) i 0) (row_in entries 0) (entry_of (items (entry_at entries) 24 0 count)) (λ i h. refl) count count (λ j l. sym (get_or_items (entry_at entries) 24 0 count j no_entry l)))

  -- what comes before the entries
  abbrev at : ℕ
  at = entries_at s (Wires.header_in m).kind

  abbrev before_entries : Verdict
  before_entries =
      and_then (first_wrong ((0 to 1 is eqb (Wires.tag_of m) made.kind) ∷ head_rows n s (Reads.fields_of made)))
      (and_then (first_wrong ((12 to 16 is whole 4 views) ∷ body_rows s (Reads.fields_of made)))
      (first_wrong ((at to at + 4 is whole 24 entries && ltb count (2 ^ 32)) ∷ [])))

  parts_joined : parts_wrong n s m views entries ≡ and_then before_entries (entries_wrong s (Reads.fields_of made) count count)
  unfolding parts_wrong wire_from
  parts_joined = joined _ _ _ _

  module _ (p : Said) (e : p ≡ said_of m) (hv h bv b c x before : Verdict) (from : ℕ)
      (is-hv : hv ≡ first_wrong (head_rows n s (fields_of (parts_said p views entries) []))) (is-h : h ≡ pick (eqb p.tag p.header.kind) hv (wrong_field 0 1))
      (is-bv : bv ≡ first_wrong (body_rows s (fields_of (parts_said p views entries) (take (p.count - 0) p.numbers)))) (is_b : b ≡ pick (whole 4 views) bv (wrong_field 12 16))
      (is-from : from ≡ entries_at s p.header.kind) (is_c : c ≡ pick (whole 24 entries && ltb count 4294967296) all_right (wrong_field from (from + 4)))
      (is_x : x ≡ and_then b c) (is-before : before ≡ and_then h x) where
    before_is : before ≡ before_entries
    unfolding first_wrong wire_from
    before_is =
        let z : p.count - 0 ≡ p.count = omega arith in
        let u : hv ≡ first_wrong (head_rows n s (Reads.fields_of made)) = rw e at is-hv ∙ head_same in
        let v : bv ≡ first_wrong (body_rows s (Reads.fields_of made)) = rw (z, e, numbers_said_lem m) at is-bv ∙ body_same in
        let f : from ≡ at = rw e at is-from in
        is-before ∙ ap₂ and_then (is-h ∙ rw (e, u)) (is_x ∙ ap₂ and_then (is_b ∙ rw v) (is_c ∙ rw f))

    pub wrong_before : (a u : ℕ) → before ≡ wrong_field a u → wrong_field a u ≡ parts_wrong n s m views entries
    unfolding and_then
    wrong_before a u f = sym (parts_joined ∙ rw (sym before_is ∙ f))

    pub rest_is : (v : Verdict) → before ≡ all_right → v ≡ entries_wrong s (fields_from (headed p.header) [] (row_in entries 0)) count count → v ≡ parts_wrong n s m views entries
    unfolding and_then
    rest_is v f q = rw e at q ∙ entries_same ∙ sym (parts_joined ∙ rw (sym before_is ∙ f))

    pub few_before : before ≡ all_right → count < 4294967296
    few_before f =
        let a = then_fine _ _ (sym before_is ∙ f) in
        let g = then_fine _ _ a.1 in
        ltb-true _ _ (and_r (whole 24 entries) _ (front_fine (at to at + 4 is whole 24 entries && ltb count (2 ^ 32)) [] g.1).0)

  -- each number fits its bytes where no field is wrong
  module _ (bv : Bytes views) (be : Bytes entries) (view : (Wires.header_in m).view < 4294967296) (each : every (λ x. ltb x (2 ^ 64)) (numbers_of m) ≡ true) where
    view_wide : 4 * (length views / 4) ≡ length views → (i : ℕ) → i < length views / 4 → ltb (num views (0 + 4 * i) 4) (2 ^ 32) ≡ true
    view_wide w i h = lt-ltb _ _ (num_lt views (0 + 4 * i) 4 bv (omega arith))

    entry_wide_lem : 24 * count ≡ length entries → (i : ℕ) → i < count → entry_wide (entry_at entries (0 + 24 * i)) ≡ true
    unfolding entry_at
    entry_wide_lem w i h =
        and_both _ _ (lt-ltb _ _ (num_lt entries (0 + 24 * i + 8) 8 be (omega arith))) (lt-ltb _ _ (num_lt entries (0 + 24 * i + 16) 4 be (omega arith)))

    pub parts_wide : parts_wrong n s m views entries ≡ all_right → wide made ≡ true
    unfolding wide wire_from
    parts_wide f =
        let r = (parts_fine n s m views entries f).0 in
        let c : length (items (entry_at entries) 24 0 count) < 4294967296 = omega (arith, length_items (entry_at entries) 24 0 count, r.few) in
        join _
        (lt-ltb _ _ view
        also each_of _ _ (all_items (λ v. ltb v (2 ^ 32) ≡ true) (λ a. num views a 4) 4 0 (length views / 4) (view_wide r.whole_views))
        also each
        also lt-ltb _ _ c
        also each_of _ _ (all_items (λ x. entry_wide x ≡ true) (entry_at entries) 24 0 count (entry_wide_lem r.whole_entries))
        also tt)

  -- ---- the writer's answers
  module _ (out : List ℕ) (t : Bool) (et : t ≡ sizes_fit n s) where
    pub sizes_wrong : not t ≡ true → record { refused = true; number = 1; offset = 0; sent = 0; out = out } ≡ writes n s m views entries out
    unfolding writes pick
    sizes_wrong h = rw (sym et ∙ not-true t h)

    module _ (right : not t ≡ false) (v : Verdict) (ev : v ≡ parts_wrong n s m views entries) where
      fit : sizes_fit n s ≡ true
      fit = sym et ∙ not-false t right

      pub parts_wrong_lem : (a u : ℕ) → v ≡ wrong_field a u → record { refused = true; number = 2; offset = a; sent = 0; out = out } ≡ writes n s m views entries out
      unfolding writes parts_formed pick
      parts_wrong_lem a u h = rw (fit, sym ev ∙ h, and-false)

      module _ (fine : v ≡ all_right) (wide-all : v ≡ all_right → wide made ≡ true) where
        formed_is : parts_formed n s m views entries ≡ true
        unfolding parts_formed
        formed_is = and_both _ _ (wide-all fine) (ap is_fine (sym ev ∙ fine))

        are : PartsAre n s m views entries
        are = parts_are n s m views entries formed_is

        views_most : (b : Bool) (k : ℕ) → pick b 0 k ≤ k
        unfolding pick
        views_most true k = omega arith
        views_most false k = omega arith

        pub small : (length views ≤ 32) × (length entries < 24 * 2 ^ 32)
        unfolding wire_from
        small =
            let f = formed_fits n s (wire_from m views entries) fit are.right in
            let a : length (items (λ x. num views x 4) 4 0 (length views / 4)) ≡ views_in s (Wires.header_in m).kind = f.views_count in
            let k : views_in s (Wires.header_in m).kind ≤ s = views_most (bare (Wires.header_in m).kind) s in
            let b : length (items (entry_at entries) 24 0 count) < 256 ^ 4 = f.entries_few in
            (omega (arith, a, length_items (λ x. num views x 4) 4 0 (length views / 4), are.whole_views, (sizes n s fit).groups), omega (arith, length_items (entry_at entries) 24 0 count, are.whole_entries))

        pub room_for : (size : ℕ) → size ≡ size_of m views entries → size ≤ length out → Room m views entries 0 (length out)
        room_for size e h =
            record { whole_views = are.whole_views; whole_entries = are.whole_entries; few_views = small.0; few_entries = small.1; room = omega arith }

        module _ (bv : Bytes views) (be : Bytes entries) where
          pub no_room : (size : ℕ) → size ≡ size_of m views entries → length out < size → record { refused = true; number = 9; offset = 0; sent = 0; out = out } ≡ writes n s m views entries out
          unfolding writes pick
          no_room size e h =
              let l = length_bytes m views entries are.whole_views are.whole_entries bv be in
              rw (fit, formed_is, lt-leb (length (wire_bytes (wire_from m views entries))) (length out) (omega arith))

          pub all_done : (size end : ℕ) (o : List ℕ) → size ≡ size_of m views entries → size ≤ length out → end ≡ 0 + length (wire_bytes (wire_from m views entries)) → o ≡ splice out 0 (wire_bytes (wire_from m views entries)) → record { refused = false; number = 0; offset = 0; sent = end; out = o } ≡ writes n s m views entries out
          unfolding writes pick
          all_done size end o e h q w =
              let l = length_bytes m views entries are.whole_views are.whole_entries bv be in
              let k : end ≡ length (wire_bytes (wire_from m views entries)) = omega arith in
              rw (fit, formed_is, le-leb (length (wire_bytes (wire_from m views entries))) (length out) (omega arith), k, w)
