-- Whether a transaction is among those listed, by its row. Assumes nothing.
use Prim.Native.Nat.{ℕ, ◌+◌, ◌*◌}
use mathlib.Core.Path.{◌≡◌, sym, ap, ◌∙◌}
use mathlib.Core.List.{List}
use lib.ListN.{length}
use lib.Dec.{ltb}
use Rattle.octets.proofs.Codecs.{length_items, get_or_items}
use Rattle.rules.specs.Choice.{any}
use Rattle.rules.specs.Entry.{no_entry, entry_of}
use Rattle.rules.specs.Read.{entry_at}
use Rattle.repeats.specs.Repeat.{first_to}
use Rattle.repeats.proofs.Laws.{first_agree}
use Rattle.entries.specs.First.{is_of, find_row}
use Rattle.entries.proofs.First.{any_first}
use Rattle.early.specs.Listed.{listed_in}
use Rattle.early.specs.declared.Listed.{Listed}

-- a row is one of the listed entries where the transaction is one of theirs
pub row_listed : (b : List ℕ) (listed : Listed) (request coordinator r : ℕ) → r ≡ find_row (λ i. entry_at b (listed.at + 24 * i)) request coordinator listed.count → ltb r listed.count ≡ any (is_of request coordinator) (listed_in b listed)
row_listed b listed request coordinator r q =
    let l : length (listed_in b listed) ≡ listed.count = length_items (entry_at b) 24 listed.at listed.count in
    let g : r ≡ first_to (λ i. is_of request coordinator (entry_of (listed_in b listed) i)) listed.count
    = q ∙ first_agree _ _ listed.count (λ i k. ap (is_of request coordinator) (sym (get_or_items (entry_at b) 24 listed.at listed.count i no_entry k))) in
    sym (any_first (is_of request coordinator) no_entry (listed_in b listed) ∙ rw (l, g))
