-- The row of a kind as the code has it: the table's cells, with the statuses as a mask.
use Rattle.std.specs.Prelude.{ℕ, ◌+◌, ◌^◌, Bool, true, false, List, [], ◌∷◌}
use Rattle.rules.specs.Kind.{Statuses, any_status, one_of, if_equal, row_of}
use Rattle.rules.specs.Kind as kinds
use Rattle.rules.specs.declared.Body.{Body}
use Rattle.rules.specs.declared.Sender.{Sender}
use Rattle.rules.specs.declared.Receiver.{Receiver}
use Rattle.rules.specs.declared.Views.{Views}
use Rattle.kinds.specs.declared.Row.{Row}
use Rattle.kinds.specs.declared.Taken.{Taken}

-- a bit for each of these numbers
abbrev pub bits : List ℕ → ℕ
bits [] = 0
bits (x ∷ xs) = 2 ^ x + bits xs

-- a bit for each status that is taken
abbrev pub mask_of : Statuses → ℕ
mask_of any_status = 255
mask_of (one_of statuses) = bits statuses
mask_of (if_equal statuses) = bits statuses

-- whether they count in an equal view only
abbrev pub only_if_equal : Statuses → Bool
only_if_equal any_status = false
only_if_equal (one_of statuses) = false
only_if_equal (if_equal statuses) = true

abbrev pub row_as : ℕ → Row
row_as k =
    record {
      known = kinds.known k;
      numbers = (row_of k).numbers;
      body = (row_of k).body;
      bare = kinds.bare k;
      sender = (row_of k).sender;
      receiver = (row_of k).receiver;
      views = (row_of k).views;
      statuses = mask_of (row_of k).status;
      only_if_equal = only_if_equal (row_of k).status;
    }

-- a row of the table
abbrev pub listed_as : ℕ → Body → Bool → Sender → Receiver → Views → Taken → Row
listed_as numbers body bare sender receiver views taken =
    record {
      known = true;
      numbers = numbers;
      body = body;
      bare = bare;
      sender = sender;
      receiver = receiver;
      views = views;
      statuses = taken.statuses;
      only_if_equal = taken.only_if_equal;
    }
