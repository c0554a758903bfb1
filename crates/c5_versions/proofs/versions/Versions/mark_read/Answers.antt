use Rattle.c5_versions.proofs.versions.Versions.mark_read.Goals as goal

pub returns : goal.returns
returns c = rw (← c.self.view_is, c.mark.ensures.items, c.mark.ensures.len, c.mark.ensures.capacity)
