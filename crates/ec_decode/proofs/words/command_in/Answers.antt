use Rattle.std.proofs.Common.{refl}
use Rattle.ec_decode.specs.Words.{command_in}
use Rattle.ec_decode.proofs.Verbs.{differ}
use Rattle.ec_decode.proofs.words.command_in.Goals as goal

pub returns-in_default : goal.returns-in_default
unfolding command_in
returns-in_default c =
    let d = c.in_default in
    rw (differ _ _ d.not-NOP, differ _ _ d.not-APRD, differ _ _ d.not-APWR, differ _ _ d.not-APRW, differ _ _ d.not-FPRD, differ _ _ d.not-FPWR, differ _ _ d.not-FPRW, differ _ _ d.not-BRD, differ _ _ d.not-BWR, differ _ _ d.not-BRW, differ _ _ d.not-LRD, differ _ _ d.not-LWR, differ _ _ d.not-LRW, differ _ _ d.not-ARMW, differ _ _ d.not-FRMW) refl

pub returns-in-NOP : goal.returns-in-NOP
unfolding command_in
returns-in-NOP c = rw c.in-NOP.is refl

pub returns-in-APRD : goal.returns-in-APRD
unfolding command_in
returns-in-APRD c = rw c.in-APRD.is refl

pub returns-in-APWR : goal.returns-in-APWR
unfolding command_in
returns-in-APWR c = rw c.in-APWR.is refl

pub returns-in-APRW : goal.returns-in-APRW
unfolding command_in
returns-in-APRW c = rw c.in-APRW.is refl

pub returns-in-FPRD : goal.returns-in-FPRD
unfolding command_in
returns-in-FPRD c = rw c.in-FPRD.is refl

pub returns-in-FPWR : goal.returns-in-FPWR
unfolding command_in
returns-in-FPWR c = rw c.in-FPWR.is refl

pub returns-in-FPRW : goal.returns-in-FPRW
unfolding command_in
returns-in-FPRW c = rw c.in-FPRW.is refl

pub returns-in-BRD : goal.returns-in-BRD
unfolding command_in
returns-in-BRD c = rw c.in-BRD.is refl

pub returns-in-BWR : goal.returns-in-BWR
unfolding command_in
returns-in-BWR c = rw c.in-BWR.is refl

pub returns-in-BRW : goal.returns-in-BRW
unfolding command_in
returns-in-BRW c = rw c.in-BRW.is refl

pub returns-in-LRD : goal.returns-in-LRD
unfolding command_in
returns-in-LRD c = rw c.in-LRD.is refl

pub returns-in-LWR : goal.returns-in-LWR
unfolding command_in
returns-in-LWR c = rw c.in-LWR.is refl

pub returns-in-LRW : goal.returns-in-LRW
unfolding command_in
returns-in-LRW c = rw c.in-LRW.is refl

pub returns-in-ARMW : goal.returns-in-ARMW
unfolding command_in
returns-in-ARMW c = rw c.in-ARMW.is refl

pub returns-in-FRMW : goal.returns-in-FRMW
unfolding command_in
returns-in-FRMW c = rw c.in-FRMW.is refl
