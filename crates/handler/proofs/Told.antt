-- What a case says of the message in the bytes. Assumes nothing.
use Prim.Native.Nat.{ℕ, ◌+◌, ◌*◌, ◌^◌, ◌<◌}
use mathlib.Core.Path.{◌≡◌, refl, sym, ap, subst, ◌∙◌}
use mathlib.Core.Bool.{Bool, true, false, true≢false}
use mathlib.Core.List.{List}
use native.Mathlib.Omega.{arith}
use lib.ListN.{length, get_or}
use lib.Dec.{eqb, ltb}
use borrow.Author.Tests.{eqb-true, ltb-true}
use Rattle.octets.specs.Bytes.{num, items}
use Rattle.octets.proofs.Laws.{Bytes}
use Rattle.octets.proofs.Codecs.{All, length_items, get_or_items}
use Rattle.rules.specs.Choice.{pick, any}
use Rattle.rules.specs.Group.{sizes_fit}
use Rattle.rules.specs.Entry.{no_entry, entry_of}
use Rattle.rules.specs.Log.{good_log}
use Rattle.rules.specs.Wire.{Wire, first_entry, header_of, case_of, tag_of, header_in, numbers_of}
use Rattle.rules.specs.Kind.{from_outside, bare, with_one, with_log, known, views_in, numbers_in}
use Rattle.rules.specs.Wire as wires
use Rattle.rules.specs.Read.{Read, malformed, message, read, wire_in, fields_of, entries_at, length_for, entry_at, case_read, decoded, formed}
use Rattle.rules.specs.Image.{state_of}
use Rattle.rules.specs.declared.Entry.{Entry}
use Rattle.rules.specs.declared.Header.{Header}
use Rattle.rules.specs.declared.Shape.{Shape}
use Rattle.rules.specs.declared.Message.{Message}
use Rattle.rules.specs.declared.Message.TheVariants.{WrongSizes}
use Rattle.rules.proofs.Choice.{and_left, pick_false}
use Rattle.rules.proofs.EachKind.{one_known, log_known, log_later}
use Rattle.rules.proofs.Entries.{EntryFits}
use Rattle.rules.proofs.Verdicts.{Rights, message_right}
use Rattle.rules.proofs.Messages.{Whole, read_whole, read_formed, formed_fits, whole_known}
use Rattle.rules.proofs.KeptMessage.{fields_as, log_good}
use Rattle.rules.proofs.Case.{tag_case, header_case, numbers_case}
use Rattle.handler.specs.Handler.{Ready}

-- the case is that of the message in the bytes, and says its kind, its header and its numbers
pub record Told (n s : ℕ) (m : Message) (msg : List ℕ) : Type 0 where
  pub sizes : sizes_fit n s ≡ true
  pub reading : read n s msg ≡ message (wire_in s msg)
  pub kind : (wire_in s msg).kind ≡ tag_of m
  pub header : header_of (wire_in s msg) ≡ header_in m
  pub numbers : (wire_in s msg).numbers ≡ numbers_of m

whole_numbers : (n s : ℕ) (b : List ℕ) (w : Wire) → Whole n s b w → length w.numbers ≡ numbers_in w.kind
unfolding fields_of
whole_numbers n s b w q = eqb-true _ _ (message_right n s (fields_of w) (length w.entries) (length w.entries) q.fine).count

module _ (n s : ℕ) (m : Message) (msg : List ℕ) where
  told_whole : (w : Wire) → sizes_fit n s ≡ true → read n s msg ≡ message w → m ≡ case_of w → Told n s m msg
  told_whole w a b h =
      let q = read_whole n s msg w b in
      let e = q.wire in
      let k = whole_known n s msg w q in
      record {
        sizes = a;
        reading = b ∙ ap message (sym e);
        kind = ap (λ (x : Wire). x.kind) e ∙ sym (tag_case w k) ∙ ap tag_of (sym h);
        header = ap header_of e ∙ sym (header_case w k) ∙ ap header_in (sym h);
        numbers = ap (λ (x : Wire). x.numbers) e ∙ sym (numbers_case w k (whole_numbers n s msg w q)) ∙ ap numbers_of (sym h);
      }

  pub told : m ≡ decoded n s msg → known (tag_of m) ≡ true → Told n s m msg
  unfolding decoded pick any
  told e k = go (sizes_fit n s) (read n s msg) refl refl e
    where
      go : (t : Bool) (r : Read) → sizes_fit n s ≡ t → read n s msg ≡ r → m ≡ pick t (case_read r) WrongSizes → Told n s m msg
      go false r a b h = absurd (true≢false (sym k ∙ ap (λ (x : Message). known (tag_of x)) h))
      go true (malformed at) a b h = absurd (true≢false (sym k ∙ ap (λ (x : Message). known (tag_of x)) h))
      go true (message w) a b h = told_whole w a b h

  -- its number at a place
  pub told_number : Told n s m msg → (i : ℕ) → wires.number (wire_in s msg) i ≡ get_or (numbers_of m) i 0
  told_number t i = ap (λ (xs : List ℕ). get_or xs i 0) t.numbers

  pub told_formed : Told n s m msg → Bytes msg → formed n s (wire_in s msg) ≡ true
  told_formed t bs = read_formed n s msg (wire_in s msg) bs t.reading

  -- what is right in each of its fields
  pub told_rights : Told n s m msg → Rights n s (fields_of (wire_in s msg)) (length (wire_in s msg).entries) (length (wire_in s msg).entries)
  told_rights t = message_right n s (fields_of (wire_in s msg)) (length (wire_in s msg).entries) (length (wire_in s msg).entries) (read_whole n s msg (wire_in s msg) t.reading).fine

  -- a message that comes from a group comes from one of its sites
  pub told_sender : Told n s m msg → from_outside (tag_of m) ≡ false → ((header_in m).from_group < s) × ((header_in m).from_replica < n)
  unfolding fields_of pick
  told_sender t o =
      let r = told_rights t in
      let k : from_outside (wire_in s msg).kind ≡ false = ap from_outside t.kind ∙ o in
      let g : ltb (wire_in s msg).from_group s ≡ true = rw k at (r.head 3) in
      let f : ltb (wire_in s msg).from_replica n ≡ true = rw k at (r.head 4) in
      (ltb-true _ s (ap (λ (h : Header). ltb h.from_group s) (sym t.header) ∙ g), ltb-true _ n (ap (λ (h : Header). ltb h.from_replica n) (sym t.header) ∙ f))

  -- ---- where its parts stand

  module _ (t : Told n s m msg) where
    abbrev w : Wire
    w = wire_in s msg

    abbrev k : ℕ
    k = tag_of m

    first_is : num msg 0 1 ≡ k
    unfolding wire_in
    first_is = t.kind

    pub told_length : length msg ≡ length_for s k (num msg (entries_at s k) 4)
    told_length = rw first_is at (read_whole n s msg w t.reading).regular.long

    pub told_entries : w.entries ≡ items (entry_at msg) 24 (entries_at s k + 4) (num msg (entries_at s k) 4)
    unfolding wire_in
    told_entries = ap (λ (j : ℕ). items (entry_at msg) 24 (entries_at s j + 4) (num msg (entries_at s j) 4)) first_is

    pub told_views : bare k ≡ false → w.g_vec ≡ items (λ a. num msg a 4) 4 16 s
    unfolding wire_in
    told_views e = ap (λ (j : ℕ). items (λ a. num msg a 4) 4 16 (views_in s j)) first_is ∙ ap (items (λ a. num msg a 4) 4 16) (pick_false (bare k) 0 s e)

    pub told_views_long : bare k ≡ false → length w.g_vec ≡ s
    told_views_long e = ap length (told_views e) ∙ length_items (λ a. num msg a 4) 4 16 s

    pub told_count : length w.entries ≡ num msg (entries_at s k) 4
    told_count = ap length told_entries ∙ length_items (entry_at msg) 24 (entries_at s k + 4) (num msg (entries_at s k) 4)

    pub told_entry : (i : ℕ) → i < num msg (entries_at s k) 4 → entry_at msg (entries_at s k + 4 + 24 * i) ≡ entry_of w.entries i
    told_entry i l = sym (ap (λ (es : List Entry). entry_of es i) told_entries ∙ get_or_items (entry_at msg) 24 (entries_at s k + 4) (num msg (entries_at s k) 4) i no_entry l)

    -- ---- what is right in each of its fields, by its kind

    pub told_right : (j : ℕ) → k ≡ j → Rights n s (fields_as j w) (length w.entries) (length w.entries)
    unfolding fields_of
    told_right j e = subst (λ (i : ℕ). Rights n s (fields_as i w) (length w.entries) (length w.entries)) (t.kind ∙ e) (told_rights t)

    -- a kind with one entry has one, the first
    pub told_one : with_one k ≡ true → length w.entries ≡ 1
    unfolding pick fields_of
    told_one o = let h : with_one w.kind ≡ true = ap with_one t.kind ∙ o in eqb-true (length w.entries) 1 (rw h at (told_rights t).entries)

    pub told_first : with_one k ≡ true → (length msg ≡ length_for s k 1) × (entry_at msg (entries_at s k + 4) ≡ first_entry w)
    told_first e =
        let c : num msg (entries_at s k) 4 ≡ 1 = sym told_count ∙ told_one e in
        let z : entries_at s k + 4 + 24 * 0 ≡ entries_at s k + 4 = omega arith in
        (told_length ∙ ap (length_for s k) c, ap (entry_at msg) (sym z) ∙ told_entry 0 (omega arith))

    -- its entries fit their bytes
    pub told_fits : Bytes msg → All EntryFits w.entries
    told_fits bs = (formed_fits n s w t.sizes (told_formed t bs)).entries

    pub told_views_fit : Bytes msg → All (λ v. v < 256 ^ 4) w.g_vec
    told_views_fit bs = (formed_fits n s w t.sizes (told_formed t bs)).g_vec

    -- a log is good for its destination group
    pub told_log : Bytes msg → with_log k ≡ true → good_log s (header_in m).to_group w.entries ≡ true
    told_log bs e = ap (λ (h : Header). good_log s h.to_group w.entries) (sym t.header) ∙ log_good n s w (told_formed t bs) k t.kind e (log_later k e)

-- ---- of what a handler is given

module _ (sh : Shape) (b msg : List ℕ) (m : Message) (r : Ready sh b m msg) where
  pub ready_told : known (tag_of m) ≡ true → Told sh.n sh.s m msg
  ready_told = told sh.n sh.s m msg r.told

  -- it is for the own group
  pub ready_group : known (tag_of m) ≡ true → (header_in m).to_group ≡ (state_of sh b).site.group
  ready_group e =
      ap (λ (h : Header). h.to_group) (sym (ready_told e).header)
      ∙ eqb-true _ _ (and_left (eqb (wire_in sh.s msg).to_group (state_of sh b).site.group) _ r.here)

  pub ready_log : Bytes msg → with_log (tag_of m) ≡ true → good_log sh.s (state_of sh b).site.group (wire_in sh.s msg).entries ≡ true
  ready_log bs e =
      let k : known (tag_of m) ≡ true = log_known (tag_of m) e in
      ap (λ (g : ℕ). good_log sh.s g (wire_in sh.s msg).entries) (sym (ready_group k)) ∙ told_log sh.n sh.s m msg (ready_told k) bs e

  -- its one entry
  pub ready_first : (k : ℕ) → tag_of m ≡ k → with_one k ≡ true → (length msg ≡ length_for sh.s k 1) × (entry_at msg (entries_at sh.s k + 4) ≡ first_entry (wire_in sh.s msg))
  ready_first k e o =
      let w : with_one (tag_of m) ≡ true = rw e o in
      rw e at (told_first sh.n sh.s m msg (ready_told (one_known (tag_of m) w)) w)
