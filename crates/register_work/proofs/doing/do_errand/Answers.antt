use Rattle.register_work.proofs.doing.do_errand.Goals as goal

pub returns-in-Register-clause-done : goal.returns-in-Register-clause-done
returns-in-Register-clause-done g c = rw c.in-Register.is c.keep_run.ensures.done

pub returns-in-Runs-clause-done : goal.returns-in-Runs-clause-done
returns-in-Runs-clause-done g c = rw c.in-Runs.is c.list_runs.ensures.done

pub returns-in-Accept-clause-done : goal.returns-in-Accept-clause-done
returns-in-Accept-clause-done g c = rw c.in-Accept.is c.accept_one.ensures.done

pub returns-in-Compare-clause-done : goal.returns-in-Compare-clause-done
returns-in-Compare-clause-done g c = rw c.in-Compare.is c.compare_runs.ensures.done
