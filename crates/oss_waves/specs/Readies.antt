-- Bodies that are ready to have their parts made.
-- Read against: of the body of task 1 the one with the code and this body is it, and one with the body of task 2 is not.
use Rattle.std.specs.Prelude.{◌≡◌}
use Rattle.oss_code.specs.declared.code.CodeParts.{CodeParts}
use Rattle.oss_body.specs.declared.body.Body.{Body}
use Rattle.oss_segment.specs.declared.ready.Ready.{Ready}

-- The one has this body, and this code.
pub record IsReady (code : CodeParts) (body : Body) (one : Ready) : Type 0 where
  pub code_is : one.code.now ≡ code
  pub body_is : one.body ≡ body
