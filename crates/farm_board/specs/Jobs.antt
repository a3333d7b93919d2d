-- What contracts see of a table of jobs, and of a job that was posted or taken.
use Rattle.atomic_table.specs.Seated.{TableId}

-- a table: its name, which no other has, and what it was made about
pub record Jobs (K : Type 0) : Type 0 where
  pub id : TableId
  pub key : K

-- a job that was posted in a table, or taken from it
pub record JobOf (K Q : Type 0) : Type 0 where
  pub table : Jobs K
  pub job : Q
