use Rattle.rp_run.proofs.Taken.{told_at_path}
use Rattle.rp_run.proofs.reading.read_file.Goals as goal

pub returns-in_ok-buffer-in-Ok-clause-told : goal.returns-in_ok-buffer-in-Ok-clause-told
returns-in_ok-buffer-in-Ok-clause-told g c =
    told_at_path _ _ _ c.args.path c.in-Ok.ensures.told c.read_rest.ensures.told
