use Rattle.rp_tests_parts.proofs.soundness.is_held.Goals as goal

pub returns-in-Instance : goal.returns-in-Instance
returns-in-Instance c sound =
    rw c.in-Instance.is (c.is_instance_held.ensures.class sound, c.is_instance_held.ensures.fields sound)

pub returns-in-Class : goal.returns-in-Class
returns-in-Class c sound = rw c.in-Class.is (c.are_methods.ensures sound)
