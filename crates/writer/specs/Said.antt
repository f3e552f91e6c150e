-- What a message's case says, and what its bytes are made of.
use Rattle.std.specs.Prelude.{ℕ, ◌+◌, ◌-◌, ◌*◌, ◌/◌, ◌^◌, ◌≤◌, ◌<◌, ◌≡◌, List, [], ◌++◌, length, take, set, replicate}
use Rattle.rules.specs.Wire.{Wire, tag_of, numbers_of}
use Rattle.rules.specs.Wire as Wires
use Rattle.rules.proofs.EachKind.{most_numbers}
use Rattle.rules.specs.declared.Header.{Header}
use Rattle.rules.specs.declared.Message.{Message}
use Rattle.writer.specs.declared.Said.{Said}

-- a case with no numbers yet, and with one more
abbrev pub said_first : ℕ → Header → Said
said_first tag header = record { tag = tag; header = header; count = 0; numbers = replicate most_numbers 0 }

unfoldable pub said_next : Said → ℕ → Said
said_next p x = record { tag = p.tag; header = p.header; count = p.count + 1; numbers = set p.numbers p.count x }

-- numbers with zeros behind them
abbrev pub padded : List ℕ → List ℕ
padded xs = xs ++ replicate (most_numbers - length xs) 0

-- all that a case says
abbrev pub said_of : Message → Said
said_of m =
    record {
      tag = tag_of m;
      header = Wires.header_in m;
      count = length (numbers_of m);
      numbers = padded (numbers_of m);
    }

-- the numbers of a case
abbrev pub numbers_said : Said → List ℕ
numbers_said p = take p.count p.numbers

-- a message that is only a header
abbrev pub bare_wire : Header → Wire
bare_wire h =
    record {
      kind = h.kind;
      to_group = h.to_group;
      to_mask = h.to_mask;
      from_group = h.from_group;
      from_replica = h.from_replica;
      view = h.view;
      g_vec = [];
      numbers = [];
      entries = [];
    }

-- the length of the message of these parts
abbrev pub size_of : Message → List ℕ → List ℕ → ℕ
size_of m views entries = 24 + length views + 8 * length (numbers_of m) + length entries

-- what a caller that writes the message of these parts has to show: the blocks are whole, their counts fit, and there is room
pub record Room (m : Message) (views entries : List ℕ) (at size : ℕ) : Type 0 where
  pub whole_views : 4 * (length views / 4) ≡ length views
  pub whole_entries : 24 * (length entries / 24) ≡ length entries
  pub few_views : length views ≤ 32
  pub few_entries : length entries < 24 * 2 ^ 32
  pub room : at + size_of m views entries ≤ size
