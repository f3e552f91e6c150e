-- Any two answers that satisfy the statement of a reader coincide; and of a good state's bytes the readers say what the state says. Assumes nothing.
use Prim.Native.Nat.{ℕ, ◌-◌, ◌≤◌, ◌<◌}
use mathlib.Core.Path.{◌≡◌, sym, ap, ◌∙◌}
use mathlib.Core.Bool.{true, ◌&&◌}
use mathlib.Core.List.{List}
use lib.ListN.{length, get_or}
use lib.Dec.{ltb, leb}
use borrow.Author.Tests.{eq-eqb, lt-ltb, le-leb}
use Rattle.rules.specs.Group.{shape_fits}
use Rattle.rules.specs.Entry.{entry_of}
use Rattle.rules.specs.State.{State, good}
use Rattle.rules.specs.Image.{state_length, image, state_of}
use Rattle.rules.specs.declared.Shape.{Shape}
use Rattle.rules.proofs.Tests.{and_both, pick_true}
use Rattle.rules.proofs.Good.{state_image, length_image}
use Rattle.readers.specs.Said.{nothing, field_of, entry_field_of, is_sized, field_in, group_view_in, entry_in}
use Rattle.readers.specs.Statements.{MeasuresFirst, TellsField, TellsView, TellsEntry}

-- ---- one answer

pub message_length_one : (n s : ℕ) (b : List ℕ) (r q : ℕ) → MeasuresFirst n s b r → MeasuresFirst n s b q → r ≡ q
message_length_one n s b r q e f = e ∙ sym f

pub field_one : (sh : Shape) (field : ℕ) (b : List ℕ) (r q : ℕ) → TellsField sh field b r → TellsField sh field b q → r ≡ q
field_one sh field b r q e f = e ∙ sym f

pub group_view_one : (sh : Shape) (group : ℕ) (b : List ℕ) (r q : ℕ) → TellsView sh group b r → TellsView sh group b q → r ≡ q
group_view_one sh group b r q e f = e ∙ sym f

pub entry_one : (sh : Shape) (position field : ℕ) (b : List ℕ) (r q : ℕ) → TellsEntry sh position field b r → TellsEntry sh position field b q → r ≡ q
entry_one sh position field b r q e f = e ∙ sym f

-- ---- of a good state's bytes

module _ (sh : Shape) (fits : shape_fits sh ≡ true) (st : State) (g : good sh st ≡ true) where
  back : state_of sh (image sh st) ≡ st
  back = state_image sh fits st g

  right_size : is_sized sh (image sh st) ≡ true
  right_size = and_both (shape_fits sh) _ fits (eq-eqb (length (image sh st)) (state_length sh) (length_image sh fits st g))

  -- every field
  pub field_image : (field : ℕ) → field_in sh (image sh st) field ≡ field_of sh st field
  unfolding field_in
  field_image field =
      pick_true (is_sized sh (image sh st)) (field_of sh (state_of sh (image sh st)) field) nothing right_size
      ∙ ap (λ (x : State). field_of sh x field) back

  -- every group's view
  pub view_image : (group : ℕ) → group < sh.s → group_view_in sh (image sh st) group ≡ get_or st.view.g_vec group 0
  unfolding group_view_in
  view_image group l =
      pick_true (is_sized sh (image sh st) && ltb group sh.s) (get_or (state_of sh (image sh st)).view.g_vec group 0) nothing
      (and_both (is_sized sh (image sh st)) (ltb group sh.s) right_size (lt-ltb group sh.s l))
      ∙ ap (λ (x : State). get_or x.view.g_vec group 0) back

  -- every entry of the log
  pub entry_image : (position field : ℕ) → 1 ≤ position → position ≤ length st.logged.log → entry_in sh (image sh st) position field ≡ entry_field_of (entry_of st.logged.log (position - 1)) field
  unfolding entry_in
  entry_image position field first last =
      let b : List ℕ = image sh st in
      let l : leb position (length (state_of sh b).logged.log) ≡ true = ap (λ (x : State). leb position (length x.logged.log)) back ∙ le-leb position (length st.logged.log) last in
      pick_true (is_sized sh b && (leb 1 position && leb position (length (state_of sh b).logged.log))) (entry_field_of (entry_of (state_of sh b).logged.log (position - 1)) field) nothing
      (and_both (is_sized sh b) _ right_size (and_both (leb 1 position) _ (le-leb 1 position first) l))
      ∙ ap (λ (x : State). entry_field_of (entry_of x.logged.log (position - 1)) field) back
