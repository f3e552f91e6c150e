-- The fields of a message by its parts.
use Rattle.std.specs.Prelude.{ℕ, ◌+◌, Bool, List, [], ◌∷◌, get_or}
use Rattle.rules.specs.Entry.{no_entry, request_fits, coordinator_fits}
use Rattle.rules.specs.Kind.{numbers_in}
use Rattle.rules.specs.Read.{Fields, Row, ◌to◌is◌, stamp_right, mask_right, number_rows, first_wrong}
use Rattle.rules.specs.declared.Entry.{Entry}
use Rattle.rules.specs.declared.Header.{Header}
use Rattle.rules.specs.Read.{Verdict}
use Rattle.fields.specs.declared.Parts.{Parts}

-- the fields of a message of these parts, whose numbers are xs and whose entries are f
abbrev pub fields_from : Parts → List ℕ → (ℕ → Entry) → Fields
fields_from p xs f =
    record {
      kind = p.header.kind;
      to_group = p.header.to_group;
      to_mask = p.header.to_mask;
      from_group = p.header.from_group;
      from_replica = p.header.from_replica;
      zeros = p.zeros;
      view = p.header.view;
      views = p.views;
      numbers = p.numbers;
      number = λ i. get_or xs i 0;
      entries = p.entries;
      entry = f;
    }

-- the same of a message with no entry
abbrev pub fields_of : Parts → List ℕ → Fields
fields_of p xs = fields_from p xs (λ i. no_entry)

-- the parts of a message that is only a header
abbrev pub headed : Header → Parts
headed h = record { header = h; zeros = 0; views = 0; numbers = 0; entries = 0 }

-- its fields
abbrev pub head_fields : Header → Fields
head_fields h = fields_of (headed h) []

-- the first wrong one of the kind's numbers
abbrev pub numbers_wrong : ℕ → Fields → Verdict
numbers_wrong s m = first_wrong (number_rows s m (numbers_in m.kind))

-- the rows of an entry at a, of which it is known whether it stands
abbrev pub rows_of : ℕ → Header → ℕ → Bool → Entry → List Row
rows_of s h a standing e =
    (a to a is standing)
    ∷ (a to a + 8 is stamp_right h.kind e.stamp)
    ∷ (a + 16 to a + 20 is request_fits e.request)
    ∷ (a + 20 to a + 22 is coordinator_fits e.coordinator)
    ∷ (a + 22 to a + 24 is mask_right s (head_fields h) e.mask)
    ∷ []
