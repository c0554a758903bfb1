-- What a thread keeps of its session.
use Rattle.std.specs.Prelude.{◌≡◌, [], ℕ, List, Some}
use Rattle.c5_definitions.specs.declared.script.Statement.{Statement}
use Rattle.c5_definitions.specs.SerialRun.{body_at}
use Rattle.c5_primary.specs.declared.state.SessionState.{SessionState}
use Rattle.c5_primary.specs.declared.state.Opened.{Opened}

-- a session, but for what it has seen and found
abbrev pub settled : SessionState → SessionState
settled s = record s { seen = []; looks = [] }

-- the same caller of the same slot
pub record IsSameCaller (s new : SessionState) : Type 0 where
  pub slot : new.slot ≡ s.slot
  pub passes : new.passes ≡ s.passes
  pub base : new.base ≡ s.base
  pub numbers : new.numbers ≡ s.numbers

-- the open transaction is of the body of this number
abbrev pub HasScript : SessionState → ℕ → Type 0
HasScript s script = (o : Opened) × (s.begun ≡ Some o) × (o.script ≡ script)

-- the open transaction is of this body
abbrev pub HasBegun : SessionState → List Statement → Type 0
HasBegun s body = (o : Opened) × (s.begun ≡ Some o) × (body ≡ body_at s.base.bodies o.script)
