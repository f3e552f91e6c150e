-- The ways through the start of a view by its leader. Assumes nothing.
use Prim.Native.Nat.{ℕ, ◌+◌, ◌*◌, ◌^◌, ◌≤◌, ◌<◌}
use mathlib.Core.Path.{◌≡◌, refl, sym, ap, ◌∙◌}
use mathlib.Core.Bool.{false}
use mathlib.Core.List.{List}
use native.Mathlib.Omega.{arith}
use lib.ListN.{length}
use Rattle.octets.specs.Bytes.{num, splice, items}
use Rattle.octets.proofs.Laws.{Bytes}
use Rattle.rules.specs.Wire.{Wire, wire_bytes}
use Rattle.rules.specs.Read.{length_for, entry_at}
use Rattle.rules.specs.State.{State}
use Rattle.rules.specs.Image.{table_at, image, state_of}
use Rattle.rules.specs.Step.{send_followers, started}
use Rattle.rules.specs.Bytes.{Left, leaves, closes}
use Rattle.rules.specs.declared.Entry.{Entry}
use Rattle.rules.specs.declared.Shape.{Shape}
use Rattle.rules.proofs.Tables.{TableFits}
use Rattle.entries.specs.Table.{Table}
use Rattle.places.specs.Layout.{Stands}
use Rattle.places.proofs.Sections.{Laid}
use Rattle.places.proofs.Lent.{holds_fits}
use Rattle.handler.specs.Sending.{message_bytes}
use Rattle.handler.proofs.Own.{replica_below}
use Rattle.handler.proofs.Closes.{closes_one, closes_short}
use Rattle.handler.proofs.Sends.{Sender, own_replica}
use Rattle.views.specs.Views.{views_of}
use Rattle.views.proofs.Begun.{begun_laid}
use Rattle.changes.specs.Changes.{led_by, log_in, start_in}
use Rattle.changes.proofs.Logged.{start_room, log_counted, start_sent, start_long}
use Rattle.changes.proofs.Started.{begun_sender, table_row}

module _ {sh : Shape} {st : State} {b : List ℕ} (s : Stands sh st b) (view : ℕ) (v : view < 256 ^ 4) (msg : List ℕ) (bs : Bytes msg) (h : 16 + 4 * sh.s ≤ length msg) (draft : List ℕ) (t : Table sh.c draft) (out : List ℕ) (number : ℕ) (n : number ≡ num draft 0 4) where
  abbrev log : List Entry
  log = table_at sh.c draft 0

  abbrev next : State
  next = started sh st view (views_of sh msg) log

  abbrev sent_log : Wire
  sent_log = send_followers sh next 9 log

  table : TableFits sh.c log
  table = holds_fits t

  number_is : number ≡ length log
  number_is = n ∙ t.count

  next_laid : (b' : List ℕ) → b' ≡ image sh next → Laid sh next b'
  next_laid b' i = begun_laid s view msg bs h log t.room i

  next_sender : Sender sh next
  next_sender = begun_sender s view msg bs h log v

  long : length (wire_bytes sent_log) ≡ length_for sh.s 9 number
  long = start_long (next_laid (image sh next) refl) table s.fits next_sender ∙ ap (length_for sh.s 9) (sym number_is)

  pub lead_short : (need : ℕ) → need ≡ length_for sh.s 9 number → length out < need → leaves 9 b out ≡ closes sh b out (led_by sh st view (views_of sh msg) log)
  lead_short need e k =
      let g : length out < length (wire_bytes sent_log) = rw (long, ← e) k in
      sym (closes_short sh b out next sent_log g)

  module _ (need : ℕ) (e : need ≡ length_for sh.s 9 number) (k : need ≤ length out) (b' : List ℕ) (w : b' ≡ image sh (started sh st view (views_of sh msg) (items (entry_at draft) 24 4 number))) where
    begun_is : b' ≡ image sh next
    begun_is = w ∙ ap (λ (es : List Entry). image sh (started sh st view (views_of sh msg) es)) (table_row sh.c draft number t n)

    -- the log may be told
    pub lead_tells : (num b' 1 1 < sh.n) × (24 + 4 * sh.s + 24 * length (state_of sh b').logged.log ≤ length out)
    lead_tells =
        let x : length (state_of sh b').logged.log ≡ length log = log_counted (next_laid b' begun_is) table s.fits in
        let g : num b' 1 1 ≡ st.site.replica = own_replica (next_laid b' begun_is) next_sender in
        let y : need ≡ 24 + 4 * sh.s + 24 * number = e ∙ start_room sh.s number in
        (omega (arith, replica_below s), omega (arith, number_is))

    pub lead_sent : (sent : ℕ) (out' : List ℕ) → sent ≡ length (message_bytes sh b' (start_in sh b') (log_in sh b')) → out' ≡ splice out 0 (message_bytes sh b' (start_in sh b') (log_in sh b')) → ◌≡◌ {A = Left} (record { refused = false; number = 0; offset = 0; sent = sent; state = b'; out = out' }) (closes sh b out (led_by sh st view (views_of sh msg) log))
    lead_sent sent out' q o =
        let x = start_sent (next_laid b' begun_is) table s.fits next_sender in
        let g : length (wire_bytes sent_log) ≤ length out = rw (long, ← e) k in
        sym (closes_one sh b out next sent_log g ∙ rw (q, o, x, begun_is))
