use Rattle.std.proofs.Common.{◌≡◌, true, false, tests, rules, refl}
use Rattle.std.proofs.lemmas.Iterator.{cases_from_all, YieldsList-from_range}
use Rattle.planfile.specs.Layouts.{byte_fits}
use Rattle.planfile.proofs.Places.{tested}
use Rattle.planfile.proofs.bytes.Body.fits.Goals as goal

pub returns : goal.returns
returns c =
    let body = c.args.self.now in
    let test = byte_fits body.head c.args.content body.bytes.now in
    tested test 504 4 c.all.result
    (cases_from_all _ _ _ (λ k. test k ≡ true) (λ k. test k ≡ false) c.all.ensures.ran (YieldsList-from_range 4 508 504 refl refl) (λ x q k. search (rules, tests)) (λ x q k. search (rules, tests)))
