-- "Sizes of one session".
use Rattle.std.specs.Prelude.{ℕ, ◌/◌}

abbrev pub max_nodes : ℕ
max_nodes = 8

abbrev pub max_sheets : ℕ
max_sheets = 64

abbrev pub max_saves : ℕ
max_saves = 32

-- bytes of a session
abbrev pub max_session : ℕ
max_session = 16384

-- bytes of a report buffer
abbrev pub min_buffer : ℕ
min_buffer = 4096

-- steps of a session: its header has three bytes at least, and a step two
abbrev pub max_steps : ℕ
max_steps = 8190

-- answers: those of the steps, and the refusal of a byte that is left
abbrev pub max_answers : ℕ
max_answers = 8191

-- room for either, by the steps' bytes alone
abbrev pub max_commands : ℕ
max_commands = max_session / 2

-- bytes that a state's text may have: none has more (proved where it is written)
abbrev pub max_state : ℕ
max_state = 524288
