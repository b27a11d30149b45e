-- The locks and the kinds of event in words.
use Rattle.std.specs.Prelude.{ℕ, List, codes}
use Rattle.locks.specs.declared.Lock.{Lock}
use Rattle.locks.specs.declared.Lock.TheVariants.{NotWarm, Inactive, NotCalibrated, NotSignedIn, Password, Authority, Unsent, Unprepared}
use Rattle.locks.specs.declared.Kind.{Kind}
use Rattle.locks.specs.declared.Kind.TheVariants as kind

abbrev pub lock_name : Lock → List ℕ
lock_name NotWarm = codes "not warm"
lock_name Inactive = codes "inactive"
lock_name NotCalibrated = codes "not calibrated"
lock_name NotSignedIn = codes "not signed in"
lock_name Password = codes "password lock"
lock_name Authority = codes "authority lock"
lock_name Unsent = codes "unsent verdicts"
lock_name Unprepared = codes "not prepared"

abbrev pub kind_name : Kind → List ℕ
kind_name kind.PowerOn = codes "power-on"
kind_name kind.ClockSetting = codes "clock setting"
kind_name kind.WarmUp = codes "warm-up finished"
kind_name kind.Calibration = codes "calibration"
kind_name kind.Try = codes "try"
kind_name kind.AuthorityLock = codes "authority lock"
kind_name kind.AuthorityUnlock = codes "authority unlock"
kind_name kind.Upload = codes "upload"
kind_name kind.Start = codes "start"
kind_name kind.Second = codes "second"
kind_name kind.Stop = codes "stop"
kind_name kind.CoastDown = codes "coast-down run"
kind_name kind.Prepare = codes "prepare"
