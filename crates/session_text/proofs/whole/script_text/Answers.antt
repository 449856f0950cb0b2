use Rattle.std.proofs.Common.{Ok, string_bytes, sym, ap, ◌∙◌, subst}
use Rattle.std.proofs.lemmas.Result.{IfOk-weaker}
use Rattle.session_text.specs.Session.{ScriptText}
use Rattle.session_text.proofs.whole.script_text.Goals as goal

pub returns-in-Ok : goal.returns-in-Ok
returns-in-Ok c =
    IfOk-weaker c.steps_text.result _ _ (λ t told s read. subst (λ said. ScriptText s c.args.limit said (string_bytes t)) (sym (c.in-Ok.ensures.said ∙ ap Ok (sym c.deref.ensures.value))) (told s read)) c.steps_text.ensures
