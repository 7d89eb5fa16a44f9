use Rattle.std.proofs.Common.{rules}
use Rattle.ec_coe.specs.Replies.{reply_in}
use Rattle.ec_coe.proofs.message.Message.reply_to.Goals as goal

pub returns-in-Response-DownloadResponse : goal.returns-in-Response-DownloadResponse
unfolding reply_in
returns-in-Response-DownloadResponse c = search rules

pub returns-in-Response-UploadResponse : goal.returns-in-Response-UploadResponse
unfolding reply_in
returns-in-Response-UploadResponse c = search rules

pub returns-in-Request-Abort : goal.returns-in-Request-Abort
unfolding reply_in
returns-in-Request-Abort c = search rules
