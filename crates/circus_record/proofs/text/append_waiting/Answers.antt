use Rattle.std.proofs.Common.{◌≡◌, ◌++◌, ◌-◌, OnOk, arith, codes, length, string_bytes, subst}
use Rattle.std.specs.Fmt.{decimal}
use Rattle.circus_record.proofs.text.append_waiting.Goals as goal

pub returns-in-None : goal.returns-in-None
returns-in-None c =
    let last : c.saturating_sub.result ≡ length c.args.run.now.asks - 1 = omega (arith, c.len.ensures, c.saturating_sub.ensures) in
    rw c.in-None.is
    (subst (λ n. OnOk c.append_number.result (string_bytes c.append_number.new.text ≡ string_bytes c.args.text.now ++ (codes "waiting ask " ++ decimal n))) last c.append_number.ensures)
