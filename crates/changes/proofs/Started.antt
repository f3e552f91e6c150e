-- A view started: what it may send, and the entries that it starts with. Assumes nothing.
use Prim.Native.Nat.{ℕ, ◌+◌, ◌*◌, ◌^◌, ◌≤◌, ◌<◌, min}
use mathlib.Core.Path.{◌≡◌}
use mathlib.Core.List.{List}
use native.Mathlib.Omega.{arith}
use lib.ListN.{length}
use Rattle.octets.specs.Bytes.{num, items}
use Rattle.octets.proofs.Laws.{Bytes}
use Rattle.rules.specs.Read.{entry_at}
use Rattle.rules.specs.State.{State}
use Rattle.rules.specs.Image.{table_at}
use Rattle.rules.specs.Step.{started}
use Rattle.rules.specs.declared.Entry.{Entry}
use Rattle.rules.specs.declared.Shape.{Shape}
use Rattle.entries.specs.Table.{Table}
use Rattle.places.specs.Layout.{Stands}
use Rattle.places.proofs.Sections.{stands_fits}
use Rattle.views.specs.Views.{views_of}
use Rattle.views.proofs.Taken.{views_long, views_fit}
use Rattle.handler.proofs.Sends.{Sender}

-- what it sends
pub begun_sender : {sh : Shape} {st : State} {b : List ℕ} (s : Stands sh st b) (view : ℕ) (msg : List ℕ) → Bytes msg → 16 + 4 * sh.s ≤ length msg → (es : List Entry) → view < 256 ^ 4 → Sender sh (started sh st view (views_of sh msg) es)
begun_sender {sh} s view msg bs h es v = let f = stands_fits s in record { group = f.group; replica = f.replica; view = v; places = views_long sh msg; g_vec = views_fit sh msg bs h }

-- the entries of a table
pub table_row : (c : ℕ) (t : List ℕ) (n : ℕ) → Table c t → n ≡ num t 0 4 → items (entry_at t) 24 4 n ≡ table_at c t 0
unfolding table_at
table_row c t n h e =
    let m : min (num t 0 4) c ≡ n = omega (arith, h.count, h.room) in
    rw m
