-- A view started: what is written, as one state. Assumes nothing.
use Prim.Native.Nat.{ℕ, ◌+◌, ◌*◌, ◌^◌, ◌≤◌, ◌<◌, min}
use mathlib.Core.Path.{◌≡◌, refl, sym, ap, ◌∙◌}
use mathlib.Core.List.{List}
use native.Mathlib.Omega.{arith}
use lib.ListN.{length, replicate}
use lib.Dec.{lit<, lit≤}
use Rattle.octets.specs.Bytes.{le, num, part, splice, items}
use Rattle.octets.proofs.Laws.{Bytes, length_le}
use Rattle.octets.proofs.Codecs.{length_items}
use Rattle.rules.specs.Read.{entry_at}
use Rattle.rules.specs.State.{State, in_view, with_logged, with_heard, with_change, none_heard}
use Rattle.rules.specs.Image.{table_length, table_bytes, image, at_early, at_heard, at_log}
use Rattle.rules.specs.Step.{started}
use Rattle.rules.specs.declared.Entry.{Entry}
use Rattle.rules.specs.declared.Shape.{Shape}
use Rattle.places.specs.Layout.{start_of, Stands}
use Rattle.places.proofs.Sections.{Laid, laid_as, stands_fits, stands_laid}
use Rattle.places.proofs.Head.{get_head, put_status, put_normal, put_sync, put_commit, put_boundary}
use Rattle.places.proofs.Tables.{put_log}
use Rattle.places.proofs.Kept.{clear_heard}
use Rattle.views.specs.Views.{views_of, emptied, tables_length, taken_in, begun_in, Spare}
use Rattle.views.proofs.Cleared.{log_spare}
use Rattle.views.proofs.Emptied.{empty_laid}
use Rattle.views.proofs.Taken.{view_taken}

-- ---- the head

pub begun_in_lem : (b b₁ b₂ b₃ b₄ b₅ : List ℕ) (view len old commit : ℕ) → old ≡ num b 32 8 → commit ≡ min old len → b₁ ≡ splice b 2 (le 1 1) → b₂ ≡ splice b₁ 12 (le 4 view) → b₃ ≡ splice b₂ 24 (le 8 len) → b₄ ≡ splice b₃ 32 (le 8 commit) → b₅ ≡ splice b₄ 40 (le 8 0) → b₅ ≡ begun_in b view len
begun_in_lem b b₁ b₂ b₃ b₄ b₅ view len old commit e q w₁ w₂ w₃ w₄ w₅ = rw (w₅, w₄, w₃, w₂, w₁, q, e)

-- the numbers of a view that starts, with its log or another's
abbrev numbered : State → ℕ → List ℕ → ℕ → List Entry → State
numbered st view g_vec len log =
    in_view st.view.g_view g_vec view 1
    (with_logged log len (min st.logged.commit len)
    (with_change st.change.votes st.change.draft 0 st.change.replies st))

module _ {sh : Shape} {st : State} {b : List ℕ} (l : Laid sh st b) where
  head_begun : {b' : List ℕ} (view len : ℕ) → st.logged.commit < 256 ^ 8 → b' ≡ begun_in b view len → Laid sh (numbered st view st.view.g_vec len st.logged.log) b'
  head_begun view len f w =
      let e : num b 32 8 ≡ st.logged.commit = get_head l 8 32 8 st.logged.commit (lit< tt) (simp length_le) (lit≤ tt) refl f in
      put_boundary (put_commit (put_sync (put_normal (put_status l 1 refl) view refl) len refl) (min st.logged.commit len) refl) 0
      (w ∙ ap (λ (v : ℕ). splice (splice (splice (splice (splice b 2 (le 1 1)) 12 (le 4 view)) 24 (le 8 len)) 32 (le 8 (min v len))) 40 (le 8 0)) e)

-- ---- the whole

-- with the old tables still, and the old log or the new
abbrev unheard : Shape → State → ℕ → List ℕ → ℕ → List Entry → State
unheard sh st view g_vec len log = with_heard (none_heard sh) (in_view view g_vec view 1 (numbered st view g_vec len log))

module _ {sh : Shape} {st : State} {b : List ℕ} (s : Stands sh st b) (view : ℕ) (msg : List ℕ) (bs : Bytes msg) (h : 16 + 4 * sh.s ≤ length msg) (len : ℕ) {b₁ b₂ b₃ : List ℕ}
    (w₁ : b₁ ≡ splice b (start_of sh at_early) (replicate (tables_length sh) 0)) (w₂ : b₂ ≡ taken_in sh b₁ view msg) (w₃ : b₃ ≡ begun_in b₂ view len) where
  head_laid : Laid sh (numbered (in_view view (views_of sh msg) st.view.normal st.view.status (emptied sh st)) view (views_of sh msg) len st.logged.log) b₃
  head_laid = head_begun (view_taken (empty_laid (stands_laid s) w₁) view msg bs h w₂) view len (stands_fits s).commit w₃

  module _ {b₄ : List ℕ} (w₄ : b₄ ≡ splice b₃ (start_of sh at_heard) (replicate (9 * sh.n) 0)) where
    -- before the log is written
    heard_laid : Laid sh (unheard sh (emptied sh st) view (views_of sh msg) len st.logged.log) b₄
    heard_laid = clear_heard head_laid w₄

    -- and after it
    log_laid : {b₅ : List ℕ} (es : List Entry) → length es ≤ sh.c → len ≡ length es → b₅ ≡ splice b₄ (start_of sh at_log) (table_bytes sh.c es) → Laid sh (started sh st view (views_of sh msg) es) b₅
    log_laid {b₅} es r e w = rw e at (put_log heard_laid es r w)

-- its bytes
pub begun_laid : {sh : Shape} {st : State} {b b' : List ℕ} (s : Stands sh st b) (view : ℕ) (msg : List ℕ) (bs : Bytes msg) (h : 16 + 4 * sh.s ≤ length msg) (es : List Entry) (r : length es ≤ sh.c) → b' ≡ image sh (started sh st view (views_of sh msg) es) → Laid sh (started sh st view (views_of sh msg) es) b'
begun_laid s view msg bs h es r e = laid_as (log_laid s view msg bs h (length es) refl refl refl refl es r refl refl) e

-- with the entries that stand in a row
module _ {sh : Shape} {st : State} {b : List ℕ} (s : Stands sh st b) (view : ℕ) (msg : List ℕ) (bs : Bytes msg) (h : 16 + 4 * sh.s ≤ length msg) (src : List ℕ) (at number log : ℕ) (r : number ≤ sh.c) (e : log ≡ start_of sh at_log) {b₁ b₂ b₃ b₄ : List ℕ}
    (w₁ : b₁ ≡ splice b (start_of sh at_early) (replicate (tables_length sh) 0)) (w₂ : b₂ ≡ taken_in sh b₁ view msg) (w₃ : b₃ ≡ begun_in b₂ view number) (w₄ : b₄ ≡ splice b₃ (start_of sh at_heard) (replicate (9 * sh.n) 0)) where
  abbrev es : List Entry
  es = items (entry_at src) 24 at number

  number_is : number ≡ length es
  number_is = sym (length_items (entry_at src) 24 at number)

  -- there is room for the log
  pub begun_room : log + table_length sh.c ≤ length b₄
  begun_room = omega (arith, (heard_laid s view msg bs h number w₁ w₂ w₃ w₄).size)

  -- and the log there ends in zeros
  pub begun_spare : Spare 24 sh.c (part b₄ log (table_length sh.c))
  begun_spare = rw e (log_spare (heard_laid s view msg bs h number w₁ w₂ w₃ w₄) s.fits.small (stands_fits s).log.room)

  pub begun : {b₅ : List ℕ} → b₅ ≡ splice b₄ log (table_bytes sh.c es) → b₅ ≡ image sh (started sh st view (views_of sh msg) es)
  begun w₅ = (log_laid s view msg bs h number w₁ w₂ w₃ w₄ es (omega (arith, number_is)) number_is (w₅ ∙ ap (λ (a : ℕ). splice b₄ a (table_bytes sh.c es)) e)).bytes
