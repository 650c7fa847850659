-- Calls of the server, their answers, and histories: calls beside their answers.
use Rattle.std.specs.Prelude.{ℕ, List}
use Rattle.plain.specs.Refusals.{Refusal}

-- Paths, buffers and what is written are bytes. `read` and `entry` are given a buffer.
pub data Change : Type 0 where
  mkfile : List ℕ → Change
  mkdir : List ℕ → Change
  write : List ℕ → ℕ → List ℕ → Change
  remove : List ℕ → Change

pub data Query : Type 0 where
  read : List ℕ → ℕ → List ℕ → Query
  stat : List ℕ → Query
  entry : List ℕ → ℕ → List ℕ → Query

-- a change and a query have their session's date, 0 for live
pub data Call : Type 0 where
  change : ℕ → Change → Call
  query : ℕ → Query → Call
  dump : ℕ → Call
  carry recover account : Call

-- Accepted with its values, or refused. Values: of write, read and entry the count; of stat mode, qid, version and size; of dump and
-- carry a number of carries; of recover a date; of account six figures; of the others none.
pub data Answer : Type 0 where
  accepted : List ℕ → Answer
  refused : Refusal → Answer

-- a call, its answer, and what its buffer holds then; a call without a buffer has an empty one
pub record Event : Type 0 where
  pub call : Call
  pub answer : Answer
  pub buffer : List ℕ

-- the events since opening, the newest first
abbrev pub History : Type 0
History = List Event
