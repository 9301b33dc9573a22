use Rattle.std.proofs.Common.{List, [], ◌∷◌, Option, Some, subst, sym}
use Rattle.std.proofs.Math.ListN.{set}
use Rattle.rp_codes.specs.CodeSteps.{Adds}
use Rattle.rp_codes.specs.Codes.{code_view}
use Rattle.rp_codes.specs.declared.code.Code.{Code}
use Rattle.rp_codes.proofs.Adding.{put_free, put_taken}
use Rattle.rp_codes.proofs.codes.Codes.put.Goals as goal

pub returns-then-not-is_free : goal.returns-then-not-is_free
returns-then-not-is_free c = put_taken c.args.self.now c.args.number c.args.code (c.is_free.ensures.taken c.if-not-is_free.true)

pub returns : goal.returns
returns c = subst (λ (xs : List (Option Code)). Adds ((c.args.number, code_view c.args.code) ∷ []) c.args.self.now (set xs c.args.number (Some c.args.code))) (sym c.self.view_is)
    (put_free c.args.self.now c.args.number c.args.code (c.is_free.ensures.within c.if-not-is_free.false) (c.is_free.ensures.none c.if-not-is_free.false))
