use Rattle.c5_frames.proofs.LawOneLog.{log_of-octets, spells-log_of, spells-one, spells-no_prefix}
use Rattle.c5_frames.proofs.LawOneLog.{log_fault_of-none, log_fault_of-ok, fault-stays}
use Rattle.c5_frames.proofs.LawOneLog.{log_fault_of-stays, front-cut, log-then-after}
use Rattle.c5_frames.proofs.LawOneLog.{log_fault_of-within}
use Rattle.c5_frames.proofs.Pieces.{fault-stays as read-stays}
use Rattle.c5_frames.proofs.laws.one_log.Goals as goal

pub returns-clause-no_fault : goal.returns-clause-no_fault
returns-clause-no_fault c bytes octets = (
  λ none.
      let log = log_fault_of-none bytes none in
      (log.0.tables, log.0.txns, log_of-octets bytes octets log.0 log.1),
  λ log. log_fault_of-ok bytes (record { tables = log.0; txns = log.1 })
      (spells-log_of bytes log.0 log.1 log.2),
)

pub returns-clause-read : goal.returns-clause-read
returns-clause-read c bytes tables txns octets = (
  log_of-octets bytes octets (record { tables = tables; txns = txns }),
  spells-log_of bytes tables txns,
)

pub returns-clause-one : goal.returns-clause-one
returns-clause-one c bytes tables others txns more a b =
    spells-one bytes tables others txns more a b

pub returns-clause-no_prefix : goal.returns-clause-no_prefix
returns-clause-no_prefix c front rest a b = spells-no_prefix front rest a.0 b.0 a.1 b.1 a.2 b.2

pub returns-clause-stays : goal.returns-clause-stays
returns-clause-stays c front rest fault e other = log_fault_of-stays front rest fault e other

pub returns-clause-for_good : goal.returns-clause-for_good
returns-clause-for_good c front rest fault e =
    (read-stays front rest fault e, fault-stays front rest fault e)

pub returns-clause-cut : goal.returns-clause-cut
returns-clause-cut c front rest octets log some = front-cut front rest octets log.0 log.1 log.2 some

pub returns-clause-within : goal.returns-clause-within
returns-clause-within c bytes fault e = log_fault_of-within bytes fault e

pub returns-clause-after : goal.returns-clause-after
returns-clause-after c log rest spelled some =
    log-then-after log rest spelled.0 spelled.1 spelled.2 some
