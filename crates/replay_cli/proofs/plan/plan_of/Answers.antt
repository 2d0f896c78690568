use Rattle.std.proofs.Common.{arith, refl}
use Rattle.std.proofs.lemmas.Result.{IfErr-weaker, IfOk-weaker}
use Rattle.replay_cli.proofs.Parts.{dialling_of, hosting_of}
use Rattle.replay_job.specs.Job.{seen}
use Rattle.replay_cli.proofs.Asked.{keep_dial, keep_faults, keep_fails, send_faults, send_fails, serve_dial, serve_faults, serve_fails}
use Rattle.replay_cli.proofs.plan.plan_of.Goals as goal

pub returns-in-Serving-clause-done : goal.returns-in-Serving-clause-done
returns-in-Serving-clause-done g c = rw c.in-Serving.is (IfOk-weaker c.serving.result _ _ (λ plan served. (served, record { runs = refl; divergences = refl; faults = refl }, (refl, refl))) c.serving.ensures.done)

pub returns-in-Serving-clause-fails : goal.returns-in-Serving-clause-fails
returns-in-Serving-clause-fails g c = rw c.in-Serving.is (IfErr-weaker c.serving.result _ _ (serve_fails (hosting_of _ _ (g.H.Host.account c.args.host.now).faults (g.H.Host.account c.serving.new.host).faults (g.H.Host.account c.args.host.now).handed (g.H.Host.account c.serving.new.host).handed _ _) (record { runs = refl; divergences = refl; faults = refl }) (refl, refl) c.in-Serving.out c.in-Serving.start c.in-Serving.most c.in-Serving.port) c.serving.ensures.fails)

pub returns-in-Serving-clause-faults : goal.returns-in-Serving-clause-faults
returns-in-Serving-clause-faults g c = serve_faults (hosting_of _ _ _ _ _ _ _ _) (record { runs = refl; divergences = refl; faults = refl }) (refl, refl) c.serving.result c.serving.ensures.faults

pub returns-in-Keeping-clause-done : goal.returns-in-Keeping-clause-done
returns-in-Keeping-clause-done g c = rw c.in-Keeping.is (IfOk-weaker c.keeping.result _ _ (λ plan kept. (kept, (refl, refl, refl), (refl, refl))) c.keeping.ensures.done)

pub returns-in-Keeping-clause-fails : goal.returns-in-Keeping-clause-fails
returns-in-Keeping-clause-fails g c = rw c.in-Keeping.is (IfErr-weaker c.keeping.result _ _ (keep_fails (hosting_of _ _ _ _ _ _ _ _) (refl, refl, refl) (refl, refl) c.in-Keeping.errand) c.keeping.ensures.fails)

pub returns-in-Keeping-clause-faults : goal.returns-in-Keeping-clause-faults
returns-in-Keeping-clause-faults g c = keep_faults (hosting_of _ _ _ _ _ _ _ _) (refl, refl, refl) (refl, refl) c.in-Keeping.errand c.keeping.result c.keeping.ensures.done c.keeping.ensures.fails

pub returns-in-Serving-clause-dial : goal.returns-in-Serving-clause-dial
returns-in-Serving-clause-dial g c = serve_dial (dialling_of _ _ _ _) (omega arith) _ _ _ _ c.serving.result c.serving.ensures.fails

pub returns-in-Keeping-clause-dial : goal.returns-in-Keeping-clause-dial
returns-in-Keeping-clause-dial g c = keep_dial (dialling_of _ _ _ _) (omega arith) c.in-Keeping.errand _ c.keeping.result c.keeping.ensures.fails

pub returns-in-Sending-clause-done : goal.returns-in-Sending-clause-done
returns-in-Sending-clause-done g c = rw c.in-Sending.is (IfOk-weaker c.sending.result _ _ (λ plan sent. (sent, (refl, refl, refl), record { runs = refl; divergences = refl; faults = refl })) c.sending.ensures.done)

pub returns-in-Sending-clause-fails : goal.returns-in-Sending-clause-fails
returns-in-Sending-clause-fails g c = rw c.in-Sending.is (IfErr-weaker c.sending.result _ _ (send_fails (hosting_of _ _ _ _ _ _ _ _) (refl, refl, refl) (record { runs = refl; divergences = refl; faults = refl }) c.in-Sending.out (seen c.in-Sending.job) c.in-Sending.port) c.sending.ensures.fails)

pub returns-in-Sending-clause-faults : goal.returns-in-Sending-clause-faults
returns-in-Sending-clause-faults g c = send_faults (hosting_of _ _ _ _ _ _ _ _) (refl, refl, refl) (record { runs = refl; divergences = refl; faults = refl }) c.in-Sending.out (seen c.in-Sending.job) c.in-Sending.port c.sending.result c.sending.ensures.fails

pub returns-in-Serving-clause-handed : goal.returns-in-Serving-clause-handed
returns-in-Serving-clause-handed g c = rw c.in-Serving.is (c.serving.ensures.handed, refl)

pub returns-in-Keeping-clause-handed : goal.returns-in-Keeping-clause-handed
returns-in-Keeping-clause-handed g c = rw c.in-Keeping.is c.keeping.ensures.closed

pub returns-in-Sending-clause-handed : goal.returns-in-Sending-clause-handed
returns-in-Sending-clause-handed g c = rw c.in-Sending.is (c.sending.ensures.handed, refl)
