use Rattle.std.proofs.Common.{rules}
use Rattle.c5_driver.proofs.Unread.{no_memory}
use Rattle.c5_driver.proofs.run.c5.Goals as goal

pub returns-in-Err-NoMemory-clause-ends : goal.returns-in-Err-NoMemory-clause-ends
returns-in-Err-NoMemory-clause-ends g c = no_memory _ _ _ (λ limit. search rules) (search rules)
