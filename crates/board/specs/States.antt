-- The state of a board, with wires of any kind of item, and how calls change it.
use Rattle.std.specs.Prelude.{ℕ, ◌+◌, cond, List, map, replicate, ◌==◌, slice_set}
use Rattle.elgamal.specs.declared.Ciphertext.{Ciphertext}
use Rattle.board.specs.declared.board.Board.{Board}
use Rattle.board.specs.declared.events.Stage.{Stage}
use Rattle.board.specs.declared.events.Stage.TheVariants.{Gathering, Turning, Finished}

pub record State (X : Type 0) : Type 0 where
  pub wires : List X
  pub start : List X
  pub servers : ℕ
  pub stage : Stage
  pub posted : ℕ
  pub completed : ℕ
  pub server : ℕ
  pub next : ℕ

-- the state that a board holds
abbrev pub view : {E : Type 0} → Board E → State (Ciphertext E)
view b = record {
  wires = b.wires.now;
  start = b.start.now;
  servers = b.servers;
  stage = b.stage;
  posted = b.posted;
  completed = b.completed;
  server = b.server;
  next = b.next;
}

-- a state of other items
abbrev pub state_map : {X Y : Type 0} → (X → Y) → State X → State Y
state_map f s = record {
  wires = map f s.wires;
  start = map f s.start;
  servers = s.servers;
  stage = s.stage;
  posted = s.posted;
  completed = s.completed;
  server = s.server;
  next = s.next;
}

module _ {X : Type 0} where
  -- as a board is opened: the same item on each of n wires
  abbrev pub opened : ℕ → ℕ → X → State X
  opened n servers item = record {
    wires = replicate n item;
    start = replicate n item;
    servers = servers;
    stage = Gathering;
    posted = 0;
    completed = 0;
    server = 0;
    next = 0;
  }

  -- a quote on the next wire
  abbrev pub posted_state : State X → X → State X
  posted_state s item = record {
    wires = slice_set s.wires s.posted item;
    start = s.start;
    servers = s.servers;
    stage = s.stage;
    posted = s.posted + 1;
    completed = s.completed;
    server = s.server;
    next = s.next;
  }

  -- the wires are the list that the turns start from
  abbrev pub kept_state : State X → State X
  kept_state s = record {
    wires = s.wires;
    start = s.wires;
    servers = s.servers;
    stage = s.stage;
    posted = s.posted;
    completed = s.completed;
    server = s.server;
    next = s.next;
  }

  -- the wires are as they were when the turn started
  abbrev pub restored_state : State X → State X
  restored_state s = record {
    wires = s.start;
    start = s.start;
    servers = s.servers;
    stage = s.stage;
    posted = s.posted;
    completed = s.completed;
    server = s.server;
    next = s.next;
  }

  -- server 1's turn begins
  abbrev pub closed_state : State X → State X
  closed_state s = record {
    wires = s.wires;
    start = s.wires;
    servers = s.servers;
    stage = Turning;
    posted = s.posted;
    completed = s.completed;
    server = 1;
    next = 0;
  }

  -- the present turn is over, with this many servers completed: the next one begins, or the round is finished
  abbrev pub advanced : State X → ℕ → State X
  advanced s completed =
      cond (s.server == s.servers)
      (record { wires = s.wires; start = s.start; servers = s.servers; stage = Finished; posted = s.posted; completed = completed; server = s.server; next = 0 })
      (record { wires = s.wires; start = s.start; servers = s.servers; stage = Turning; posted = s.posted; completed = completed; server = s.server + 1; next = 0 })

  -- two outputs on the wires a and b
  abbrev pub written_state : State X → (a b : ℕ) → X → X → State X
  written_state s a b x y = record {
    wires = slice_set (slice_set s.wires a x) b y;
    start = s.start;
    servers = s.servers;
    stage = s.stage;
    posted = s.posted;
    completed = s.completed;
    server = s.server;
    next = s.next + 1;
  }

  -- after a step, of a plan of so many comparators: the last one completes the server
  abbrev pub stepped_state : ℕ → State X → (a b : ℕ) → X → X → State X
  stepped_state count s a b x y =
      cond (s.next + 1 == count) (advanced (kept_state (written_state s a b x y)) (s.completed + 1)) (written_state s a b x y)

  -- the present server is put out
  abbrev pub expelled_state : State X → State X
  expelled_state s = advanced (restored_state s) s.completed
