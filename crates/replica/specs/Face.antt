-- What a host is given: one number for an answer, and the memory as the statements say.
use Rattle.std.specs.Prelude.{ℕ, ◌+◌, ◌*◌, ◌%◌, ◌^◌, ◌≡◌, true, List, [], ◌∷◌, Ok, Err, length, eqb, ltb}
use Rattle.rules.specs.Choice.{pick}
use Rattle.rules.specs.Group.{sizes_fit}
use Rattle.rules.specs.Kind.{known, numbers_in}
use Rattle.rules.specs.Wire.{case_with}
use Rattle.rules.specs.Read.{Row, ◌to◌is◌, numbers_at, first_wrong, and_then, is_fine}
use Rattle.rules.specs.Write.{place_of, Written, writes}
use Rattle.rules.specs.Bytes.{Left}
use Rattle.rules.specs.declared.Header.{Header}
use Rattle.rules.specs.Read.{Verdict}
use Rattle.rules.specs.Refusals.{Answer, number_of, offset_of}

-- the version of the interface, 2.1.0: major * 10000 + minor * 100 + patch
abbrev pub version : ℕ
version = 20100

-- the number of the table, and in the bits above it 256 times the outgoing length or, with 2, the offset
abbrev pub coded : ℕ → ℕ → ℕ
coded number beside = number + beside * 2 ^ 8 % 2 ^ 64

-- of an answer
abbrev pub code_of : Answer → ℕ
code_of (Ok sent) = coded 0 sent
code_of (Err r) = coded (number_of r) (offset_of r)

-- what a call leaves, as a host has it: of outgoing length and offset one is 0
pub record Gives (l : Left) (r : ℕ) (b o : List ℕ) : Type 0 where
  pub number : r ≡ coded l.number (l.sent + l.offset)
  pub state : b ≡ l.state
  pub out : o ≡ l.out

-- what the writer leaves, as a host has it
pub record Puts (w : Written) (r : ℕ) (o : List ℕ) : Type 0 where
  pub number : r ≡ coded w.number (w.sent + w.offset)
  pub out : o ≡ w.out

-- a header as a host gives it, each field one of 64 bits
pub record Given : Type 0 where
  pub kind : ℕ
  pub to_group : ℕ
  pub to_mask : ℕ
  pub from_group : ℕ
  pub from_replica : ℕ
  pub view : ℕ

abbrev pub given : ℕ → ℕ → ℕ → ℕ → ℕ → ℕ → Given
given kind to_group to_mask from_group from_replica view =
    record { kind = kind; to_group = to_group; to_mask = to_mask; from_group = from_group; from_replica = from_replica; view = view }

-- the kind is known, and each field fits its bytes
unfoldable pub head_fits : Given → List Row
head_fits g =
    (0 to 1 is known g.kind)
    ∷ (1 to 2 is ltb g.to_group 256)
    ∷ (2 to 3 is ltb g.to_mask 256)
    ∷ (3 to 4 is ltb g.from_group 256)
    ∷ (4 to 5 is ltb g.from_replica 256)
    ∷ (8 to 12 is ltb g.view 4294967296)
    ∷ []

abbrev pub header_of : Given → Header
header_of g =
    record { kind = g.kind; to_group = g.to_group; to_mask = g.to_mask; from_group = g.from_group; from_replica = g.from_replica; view = g.view }

-- the first field that does not fit, or the count of numbers where there are not as many as the kind has
unfoldable pub unfit_in : ℕ → Given → List ℕ → Verdict
unfit_in s g numbers =
    let a = numbers_at s g.kind in
    and_then (first_wrong (head_fits g)) (first_wrong ((a to a + 4 is eqb (length numbers) (numbers_in g.kind)) ∷ []))

-- what the writer leaves: what does not fit is malformed, and told before what fits is looked at
unfoldable pub writes_from : ℕ → ℕ → Given → List ℕ → List ℕ → List ℕ → List ℕ → Written
writes_from n s g numbers views entries out =
    let v = unfit_in s g numbers in
    pick (is_fine v) (writes n s (case_with (header_of g) numbers) views entries out)
    (record { refused = true; number = pick (sizes_fit n s) 2 1; offset = pick (sizes_fit n s) (place_of v) 0; sent = 0; out = out })
