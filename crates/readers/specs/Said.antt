-- What hosts are told of any bytes: the length of the next message, and what a state says.
use Rattle.std.specs.Prelude.{ℕ, ◌-◌, Bool, ◌&&◌, List, length, get_or, eqb, ltb, leb}
use Rattle.octets.specs.Bytes.{num}
use Rattle.rules.specs.Choice.{pick}
use Rattle.rules.specs.Group.{sizes_fit, shape_fits, leader}
use Rattle.rules.specs.Entry.{entry_of}
use Rattle.rules.specs.Kind.{known}
use Rattle.rules.specs.Read.{length_at}
use Rattle.rules.specs.State.{State}
use Rattle.rules.specs.Image.{state_length, state_of}
use Rattle.rules.specs.declared.Entry.{Entry}
use Rattle.rules.specs.declared.Shape.{Shape}

-- the length of the message that the bytes begin with; 0 where a size is wrong, the kind is none, or the bytes end before the message does
unfoldable pub next_length : ℕ → ℕ → List ℕ → ℕ
next_length n s b = pick (sizes_fit n s && (known (num b 0 1) && leb (length_at s b) (length b))) (length_at s b) 0

-- what is said where there is nothing to say: 2^64 − 1
abbrev pub nothing : ℕ
nothing = 18446744073709551615

-- a field of a state by its number
unfoldable pub field_of : Shape → State → ℕ → ℕ
field_of sh st field =
    pick (eqb field 1) st.site.group
    (pick (eqb field 2) st.site.replica
    (pick (eqb field 3) st.view.status
    (pick (eqb field 4) st.view.g_view
    (pick (eqb field 5) st.view.normal
    (pick (eqb field 6) st.clock
    (pick (eqb field 7) st.logged.sync
    (pick (eqb field 8) st.logged.commit
    (pick (eqb field 9) (length st.logged.log)
    (pick (eqb field 10) (leader sh.n st.view.g_vec st.site.group)
    nothing)))))))))

-- a field of an entry by its number
unfoldable pub entry_field_of : Entry → ℕ → ℕ
entry_field_of e field =
    pick (eqb field 1) e.stamp
    (pick (eqb field 2) e.command
    (pick (eqb field 3) e.request
    (pick (eqb field 4) e.coordinator
    (pick (eqb field 5) e.mask
    nothing))))

-- the sizes are permitted, and the bytes are as many as a state of them has
abbrev pub is_sized : Shape → List ℕ → Bool
is_sized sh b = shape_fits sh && eqb (length b) (state_length sh)

-- a field of the state in the bytes
unfoldable pub field_in : Shape → List ℕ → ℕ → ℕ
field_in sh b field = pick (is_sized sh b) (field_of sh (state_of sh b) field) nothing

-- a group's view in the gVec of the state in the bytes
unfoldable pub group_view_in : Shape → List ℕ → ℕ → ℕ
group_view_in sh b group = pick (is_sized sh b && ltb group sh.s) (get_or (state_of sh b).view.g_vec group 0) nothing

-- a field of the entry at a position, from 1 on, in the log of the state in the bytes
unfoldable pub entry_in : Shape → List ℕ → ℕ → ℕ → ℕ
entry_in sh b position field =
    let log = (state_of sh b).logged.log in
    pick (is_sized sh b && (leb 1 position && leb position (length log))) (entry_field_of (entry_of log (position - 1)) field) nothing
