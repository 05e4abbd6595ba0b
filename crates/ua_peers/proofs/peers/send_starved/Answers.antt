use Rattle.std.proofs.Common.{◌≡◌, refl, Err, sym, subst, List, ℕ}
use Rattle.std.specs.Prelude.{Result}
use Rattle.std.proofs.lemmas.Result.{err_from_is_err_and}
use Rattle.counted_io.specs.declared.fault.ServeFault.{ServeFault}
use Rattle.counted_io.specs.declared.fault.ServeFault.TheVariants.{Write}
use Rattle.ua_peers.specs.declared.peers.PeerEnded.{PeerEnded}
use Rattle.std.specs.Io.KnownBytes.{Appends}
use Rattle.counted_io.specs.Bytes.{AppendsPart}
use Rattle.ua_peers.proofs.Talking.{end-four}
use Rattle.ua_peers.specs.Talking.{TellsWant}
use Rattle.ua_peers.proofs.peers.send_starved.Goals as goal

pub returns-in_err-send-clause-tells : goal.returns-in_err-send-clause-tells
returns-in_err-send-clause-tells g c =
    let p = err_from_is_err_and c.from_residual.result c.from_residual.ensures.1 in
    let fault = c.in_err-send.ensures.fault.0 in
    let is : c.from_residual.result ≡ Err Write = cc (fault, p.1, p.2) in
    let contents = g.W.Write.contents in
    subst (λ (x : Result PeerEnded ServeFault).
    TellsWant (contents c.args.writer.now.inner) (contents c.send.new.self.inner) x) (sym is)
    (subst (λ (b : List ℕ). AppendsPart (contents c.args.writer.now.inner)
    (contents c.send.new.self.inner) b) end-four c.in_err-send.ensures.part)

pub returns-clause-tells : goal.returns-clause-tells
returns-clause-tells g c =
    let contents = g.W.Write.contents in (
      refl,
      subst (λ (b : List ℕ). Appends (contents c.args.writer.now.inner)
          (contents c.send.new.self.inner) b) end-four c.in_ok-send.ensures.ok,
    )
